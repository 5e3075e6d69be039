-- A merge of two held nodes goes on with what it does.
use Rattle.std.proofs.Common.{◌≡◌, ℕ, ◌^◌, ◌<◌, [], Some, None, refl}
use Rattle.pm_words.specs.declared.machine.Turn.{Turn}
use Rattle.pm_words.specs.declared.machine.Turn.TheVariants.{Go, Done}
use Rattle.call_stages.specs.declared.once.Once.{Once}
use Rattle.call_stages.specs.declared.once.Once.TheVariants as once
use Rattle.call_stages.specs.declared.once.Placed.{Placed}
use Rattle.call_stages.specs.Stages.{Held, just_held}
use Rattle.smo_log.proofs.Staying.{StaysSo}
use Rattle.split_merge.specs.declared.joining.Join.{Join}
use Rattle.split_merge.specs.Joins.{IsJoin, join_asks, join_turned}
use Rattle.split_merge.specs.JoinStages.{join_footing}
use Rattle.split_merge.specs.MergeLaws.{JoinsSo}
use Rattle.split_merge.proofs.JoinLaw.{joins_are_steps}

-- it may be any call's
abbrev some_held : Held
some_held = record (just_held []) { old = Some None; placed = Some 0 }

abbrev some_answer : Once Placed
some_answer = once.Done (record { old = None; place = 0; hops = 0 })

pub join_goes_on : (join : Join) (x : ℕ) → IsJoin join → x < 2 ^ 64 → StaysSo (λ next. IsJoin next × (next.union ≡ join.union)) (join_turned join x)
join_goes_on join x sound fits =
    stays (join_turned join x) (joins_are_steps join 0 some_held some_answer x sound (record { old = None; place = 0; hops = 0; had = refl; placed = refl; is = refl }) fits)
  where
    stays : (turn : Turn Join (Unit {0})) → JoinsSo 0 join.union some_held some_answer (join_footing some_held join) (join_asks join) x turn → StaysSo (λ next. IsJoin next × (next.union ≡ join.union)) turn
    stays (Go next) is = (is.1, is.2)
    stays (Done nothing) is = tt
