mod Chains
mod Entries
mod Gathering
mod Gathered
mod Pruning
mod Roots
mod TagKinds
