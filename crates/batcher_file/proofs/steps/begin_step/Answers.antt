use Rattle.batcher_file.proofs.steps.begin_step.Goals as goal

pub returns-in-Frame-clause-tried : goal.returns-in-Frame-clause-tried
returns-in-Frame-clause-tried g c = rw (c.in-Frame.is) (record {
  crash = c.write_at.ensures.crash;
  mixed = c.write_at.ensures.mixed;
  clean = c.write_at.ensures.clean;
})

pub returns-in-Frame-clause-touched : goal.returns-in-Frame-clause-touched
returns-in-Frame-clause-touched g c = rw (c.in-Frame.is) c.write_at.ensures.others

pub returns-in-Byte-clause-tried : goal.returns-in-Byte-clause-tried
returns-in-Byte-clause-tried g c = rw (c.in-Byte.is) (record {
  crash = c.write_at-in-Byte.ensures.crash;
  mixed = c.write_at-in-Byte.ensures.mixed;
  clean = c.write_at-in-Byte.ensures.clean;
})

pub returns-in-Byte-clause-touched : goal.returns-in-Byte-clause-touched
returns-in-Byte-clause-touched g c = rw (c.in-Byte.is) c.write_at-in-Byte.ensures.others

pub returns-in-SetLen-clause-tried : goal.returns-in-SetLen-clause-tried
returns-in-SetLen-clause-tried g c = rw (c.in-SetLen.is) (record {
  crash = c.set_len.ensures.crash;
  mixed = λ mixing fits. c.set_len.ensures.crash;
  clean = c.set_len.ensures.clean;
})

pub returns-in-SetLen-clause-touched : goal.returns-in-SetLen-clause-touched
returns-in-SetLen-clause-touched g c = rw (c.in-SetLen.is) c.set_len.ensures.others
