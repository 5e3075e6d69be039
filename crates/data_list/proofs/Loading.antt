-- A walk loads, and does nothing else, and each turn leaves it fewer loads.
use Rattle.std.proofs.Common.{◌≡◌, ℕ, ◌+◌, ◌-◌, ◌*◌, ◌≤◌, ◌==◌, true, false, cond, ltb, Some, None, refl, arith, [], ◌∷◌}
use Rattle.std.proofs.lemmas.Bool.{ltb-true}
use Rattle.pm_words.specs.declared.layout.Layout.{Layout}
use Rattle.pm_words.specs.declared.again.Again.TheVariants.{Locked, Hops}
use Rattle.pm_words.specs.declared.machine.Turn.{Turn}
use Rattle.pm_words.specs.declared.machine.Turn.TheVariants.{Go, Done}
use Rattle.pm_words.specs.Codes.{live_status, gone_status}
use Rattle.pm_words.specs.Turns.{GoesBelow}
use Rattle.data_node.specs.Lists.{number_of}
use Rattle.version_lock.specs.Versions.{is_free_word}
use Rattle.data_list.specs.declared.target.Walked.{Walked}
use Rattle.data_list.specs.declared.target.Walked.TheVariants as walked
use Rattle.data_list.specs.declared.walk.Walk.{Walk}
use Rattle.data_list.specs.declared.walk.WalkAt.{WalkAt}
use Rattle.data_list.specs.declared.walk.WalkAt.TheVariants as at
use Rattle.data_list.specs.Walks.{loads_at, landing, hops_to, target}
use Rattle.data_list.specs.Walks.{walk_asks, walk_at_asks, walk_turned, walk_at_turned, walk_left, walk_at_left}
use Rattle.machine_runs.specs.Runs.{AddsNothing}

adds_nothing : (l : Layout) (node : ℕ) (a : WalkAt) → AddsNothing (walk_at_asks l node a)
adds_nothing l node at.Version = tt
adds_nothing l node (at.Status version) = tt
adds_nothing l node (at.First version) = tt
adds_nothing l node (at.Second version first) = tt
adds_nothing l node (at.Third version first second) = tt
adds_nothing l node (at.Next version low) = tt
adds_nothing l node (at.HighFirst version low next) = tt
adds_nothing l node (at.HighSecond version low next first) = tt
adds_nothing l node (at.HighThird version low next first second) = tt
adds_nothing l node at.Prev = tt

pub walk_adds_nothing : (walk : Walk) → AddsNothing (walk_asks walk)
walk_adds_nothing walk = adds_nothing walk.layout walk.node walk.at

module _ (walk : Walk) where
  abbrev left_at : ℕ → ℕ
  left_at k = 10 * (2 * walk.layout.nodes - (walk.hops + 1)) + k

  abbrev Fewer : ℕ → Turn Walk Walked → Type 0
  Fewer k turn = GoesBelow walk_left (left_at k) turn

  pub hop_fewer : (to k : ℕ) → 1 ≤ k → Fewer k (hops_to walk to)
  hop_fewer to k some =
      elim (ltb (walk.hops + 1) (2 * walk.layout.nodes)) as (λ b. ltb (walk.hops + 1) (2 * walk.layout.nodes) ≡ b
      → Fewer k (cond b (Go (record walk { node = landing walk to; hops = walk.hops + 1; at = at.Version }))
      (Done (walked.Again (Hops (walk.hops + 1)))))) [
        | true ↦ λ e. let less = ltb-true _ _ e in omega (arith, less)
        | false ↦ λ e. tt
      ] refl

  at_fewer : (here : WalkAt) (got : ℕ) → Fewer (walk_at_left here) (walk_at_turned walk here got)
  at_fewer at.Version got =
      elim (is_free_word got walk.generation) as (λ b. Fewer 10 (cond b (loads_at walk (at.Status got))
      (Done (walked.Again (Locked walk.node got))))) [ true ↦ omega arith | false ↦ tt ]
  at_fewer (at.Status version) got =
      elim (got == live_status) as (λ b. Fewer 9 (cond b (loads_at walk (at.First version))
      (cond (got == gone_status) (loads_at walk at.Prev) (hops_to walk 0)))) [
        | true ↦ omega arith
        | false ↦ elim (got == gone_status) as (λ b. Fewer 9 (cond b (loads_at walk at.Prev) (hops_to walk 0))) [
          | true ↦ omega arith
          | false ↦ hop_fewer 0 9 (omega arith)
        ]
      ]
  at_fewer (at.First version) got = omega arith
  at_fewer (at.Second version first) got = omega arith
  at_fewer (at.Third version first second) got =
      elim (ltb (number_of walk.key) (number_of (first ∷ second ∷ got ∷ []))) as (λ b. Fewer 6 (cond b
      (loads_at walk at.Prev) (loads_at walk (at.Next version (first ∷ second ∷ got ∷ []))))) [
        | true ↦ omega arith
        | false ↦ omega arith
      ]
  at_fewer (at.Next version low) got =
      elim (got == 0) as (λ b. Fewer 5 (cond b (target walk version low None)
      (cond (ltb got walk.layout.nodes) (loads_at walk (at.HighFirst version low got)) (hops_to walk 0)))) [
        | true ↦ tt
        | false ↦ elim (ltb got walk.layout.nodes) as (λ b. Fewer 5 (cond b
            (loads_at walk (at.HighFirst version low got)) (hops_to walk 0))) [
              | true ↦ omega arith
              | false ↦ hop_fewer 0 5 (omega arith)
            ]
      ]
  at_fewer (at.HighFirst version low next) got = omega arith
  at_fewer (at.HighSecond version low next first) got = omega arith
  at_fewer (at.HighThird version low next first second) got =
      elim (ltb (number_of walk.key) (number_of (first ∷ second ∷ got ∷ []))) as (λ b. Fewer 2 (cond b
      (target walk version low (Some (record { node = next; anchor = first ∷ second ∷ got ∷ [] })))
      (hops_to walk next))) [
        | true ↦ tt
        | false ↦ hop_fewer next 2 (omega arith)
      ]
  at_fewer at.Prev got = hop_fewer got 1 (omega arith)

pub walk_fewer : (walk : Walk) (got : ℕ) → GoesBelow walk_left (walk_left walk) (walk_turned walk got)
walk_fewer walk got = at_fewer walk walk.at got
