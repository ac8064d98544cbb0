use Rattle.batcher_types.proofs.Words.{◌≡◌, ◌&&◌, ◌==◌, Bool, true, ap, subst, Decides, Decides-and, Decides-eqb, slice_eq-Decides, Attestation}
use Rattle.batcher_types.proofs.messages.are_identical.Goals as goal

module _ {G : Type 0} (eq : G → G → Bool) (reflexive : (a : G) → eq a a ≡ true)
    (identical : (a b : G) → eq a b ≡ true → a ≡ b) where
  abbrev same : Attestation G → Attestation G → Bool
  same a b = (a.signer.0 == b.signer.0) && eq a.signature b.signature

  signatures : (a b : G) → Decides (eq a b) (a ≡ b)
  signatures a b = (identical a b, λ e. subst (λ x. eq a x ≡ true) e (reflexive a))

  -- two attestations are the same where signer and signature are
  decides : (a b : Attestation G) → Decides (same a b) (a ≡ b)
  decides a b =
      let both = Decides-and (a.signer.0 == b.signer.0) (eq a.signature b.signature) (Decides-eqb _ _) (signatures a.signature b.signature) in (
        λ e. λ i. record { signer = record { 0 = (both.0 e).0 i }; signature = (both.0 e).1 i },
        λ e. both.1 (ap (λ a. a.signer.0) e, ap (λ a. a.signature) e),
      )

pub returns : goal.returns
returns g c =
    let it = slice_eq-Decides (decides g.G.PartialEq.eq g.met.G.Eq.laws.refl g.met.G.Identical.identical) c.args.one.now c.args.other.now
    c.eq.result c.eq.ensures in
    (λ h. it.0 h, λ e. it.1 e)
