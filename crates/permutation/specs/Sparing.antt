-- The steps of a party, with all that it has, that store no permutation.
use Rattle.std.specs.Prelude.{◌≡◌, ℕ, ◌<◌, ◌^◌, Option, None, IfSome}
use Rattle.pm_words.specs.declared.layout.Layout.{Layout}
use Rattle.pm_words.specs.declared.action.Action.{Action}
use Rattle.pm_words.specs.declared.action.Action.TheVariants.{Load, Store}
use Rattle.pm_words.specs.Locations.{Word, Cached, address_of}
use Rattle.call_stages.specs.layer_map.specs.Places.{IsLayerPlace}
use Rattle.call_stages.specs.declared.once.Once.{Once}
use Rattle.call_stages.specs.declared.once.Placed.{Placed}
use Rattle.call_stages.specs.Stages.{Stage, counted}
use Rattle.call_stages.specs.Kinds.{Step, prev_address}
use Rattle.call_stages.specs.Lines.{HeldLine, Notes}
use Rattle.call_stages.specs.Prevs.{Debt, Deals, Prevs}
use Rattle.call_stages.specs.AnySteps.{IsOfPermutation, volatile_address}
use Rattle.call_stages.specs.Footings.{Footing, KeepsOrLetsGo, Minds, Waits}

-- It is a line of this layout, if there is one.
abbrev pub IsLineOf : Layout → Option HeldLine → Type 0
IsLineOf l line = IfSome line (λ e. (e.caller < l.callers) × (e.number < 8))

-- A step on nodes, on a log line, the store of a prev, or a load of a word of the search layer or of a permutation.
pub data SparingStep (l : Layout) (g c : ℕ) :
    Footing → Action → ℕ → Footing → Option (Once Placed) → Type 0 where
  on_nodes : {stage next : Stage} {line after : Option HeldLine} {debt debt' : Debt} {action : Action} {x : ℕ}
      {answer : Option (Once Placed)} →
      Minds stage next line → KeepsOrLetsGo next line after → Step l g stage action x next answer →
      Deals stage next debt debt' →
      SparingStep l g c (record { stage = stage; line = line; debt = debt }) action x (record {
        stage = next;
        line = after;
        debt = debt';
      }) answer
  on_line : {stage : Stage} {line after : Option HeldLine} {debt : Debt} {action : Action} {x : ℕ} →
      Waits stage line after → counted stage ≡ None → IsLineOf l line → Notes l line action x after →
      IfSome after (λ e. e.caller ≡ c) →
      SparingStep l g c (record { stage = stage; line = line; debt = debt }) action x (record {
        stage = stage;
        line = after;
        debt = debt;
      }) None
  on_prev : {stage : Stage} {line : Option HeldLine} {debt debt' : Debt} {n y x : ℕ} →
      counted stage ≡ None → n < l.nodes → y < 2 ^ 64 → Prevs l stage debt (Store (prev_address l n) y) debt' →
      SparingStep l g c (record { stage = stage; line = line; debt = debt }) (Store (prev_address l n) y) x (record {
        stage = stage;
        line = line;
        debt = debt';
      }) None
  on_layer : {stage : Stage} {line : Option HeldLine} {debt : Debt} {w : Word} {x : ℕ} →
      counted stage ≡ None → IsLayerPlace l w →
      SparingStep l g c (record { stage = stage; line = line; debt = debt }) (Load (address_of l (Cached w))) x
      (record { stage = stage; line = line; debt = debt }) None
  on_permutation : {stage : Stage} {line : Option HeldLine} {debt : Debt} {n offset x : ℕ} →
      counted stage ≡ None → n < l.nodes → IsOfPermutation offset →
      SparingStep l g c (record { stage = stage; line = line; debt = debt }) (Load (volatile_address l n offset)) x
      (record { stage = stage; line = line; debt = debt }) None
