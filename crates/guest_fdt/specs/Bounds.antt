-- What a plan must keep to for its tree to be written.
use Rattle.std.specs.Prelude.{◌+◌, ◌^◌, ◌<◌, ◌≤◌, All}
use Rattle.domain_plan.specs.declared.planned.GuestPlan.{GuestPlan}

-- at most 128 vCPUs, and numbers that fit the cells of a tree
pub record IsBounded (plan : GuestPlan) : Type 0 where
  pub cpus : plan.cpus ≤ 128
  -- memory and shared regions end at or below page 2^28
  pub memories : All (λ (page, count). page + count ≤ 2 ^ 28) plan.memories
  pub shared : All (λ (id, page, count). page + count ≤ 2 ^ 28) plan.shared
  -- a peer is a number of 32 bits
  pub peers : All (λ (port, peer, peer_port). peer < 2 ^ 32) plan.ports
