pub mod Words
mod Pointers
mod Verified
mod Quorums
mod Others
mod Unmade
mod Puts
mod Listings
mod Holding
mod Judged
