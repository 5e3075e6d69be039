-- What contracts see of a source and a sink in memory, and of the plan by which their calls fail.
use Rattle.std.specs.Prelude.{ℕ, ◌+◌, ◌-◌, ◌^◌, ◌<◌, min, List, Contains}

-- the calls of one object: how many were made, how many of them failed, and the numbers of those that are to fail
pub record CallPlan : Type 0 where
  pub calls : ℕ
  pub faults : ℕ
  pub failing : List ℕ

-- the next call has a number, which is listed: the first call has number 1, and the last with a number 2 ^ 64 - 1
abbrev pub IsNextToFail : CallPlan → Type 0
IsNextToFail plan = (plan.calls < 2 ^ 64 - 1) × Contains plan.failing (plan.calls + 1)

-- the plan after a call that did not fail; the count of calls stands still at 2 ^ 64 - 1
abbrev pub after_call : CallPlan → CallPlan
after_call plan = record plan { calls = min (plan.calls + 1) (2 ^ 64 - 1) }

-- the plan after a call that failed
abbrev pub after_fault : CallPlan → CallPlan
after_fault plan = record plan { calls = min (plan.calls + 1) (2 ^ 64 - 1); faults = plan.faults + 1 }

-- a source: the bytes that are left, the most that one read gives, and its plan
pub record Feed : Type 0 where
  pub left : List ℕ
  pub largest : ℕ
  pub plan : CallPlan

-- a sink: the bytes that it has, the most that one write takes, and its plan
pub record Store : Type 0 where
  pub written : List ℕ
  pub largest : ℕ
  pub plan : CallPlan
