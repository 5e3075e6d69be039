-- A step that stores no permutation is a step of its party.
use Rattle.std.proofs.Common.{◌≡◌, ℕ, arith}
use Rattle.std.specs.Prelude.{Option, None}
use Rattle.pm_words.specs.declared.layout.Layout.{Layout}
use Rattle.pm_words.specs.declared.action.Action.{Action}
use Rattle.call_stages.specs.declared.once.Once.{Once}
use Rattle.call_stages.specs.declared.once.Placed.{Placed}
use Rattle.call_stages.specs.Stages.{Stage, counted}
use Rattle.call_stages.specs.Lines.{HeldLine, Notes, passes_line, takes, looks_up, notes, keeps_safe}
use Rattle.call_stages.specs.AnySteps.{AnyStep, beside, loads_line, stores_line, drains_line, loads_layer, loads}
use Rattle.call_stages.specs.AnySteps as any
use Rattle.call_stages.specs.Footings.{Footing, FootStep}
use Rattle.call_stages.specs.Footings as foot
use Rattle.permutation.specs.Sparing.{IsLineOf, SparingStep, on_nodes, on_line, on_prev, on_layer, on_permutation}
use Rattle.permutation_law.specs.Laws.{Spares}
use Rattle.smo_log.proofs.LineLaw.{notes_beside}

pub foot_of : (l : Layout) (g c : ℕ) (f t : Footing) (a : Action) (x : ℕ) (r : Option (Once Placed)) → SparingStep l g c f a x t r → FootStep l g c f a x t r
foot_of l g c f t a x r (on_nodes minds kept step deals) = foot.on_nodes minds kept step deals
foot_of l g c f t a x r (on_line {line = line} {after = after} waits none here note own) = foot.on_line waits none (notes_beside l line after a x here note) note own
foot_of l g c f t a x r (on_prev none here fits k) = foot.on_prev none (any.stores_prev here fits) k
foot_of l g c f t a x r (on_layer none has) = foot.on_layer none has
foot_of l g c f t a x r (on_permutation none here of) = foot.on_permutation none (loads here of)

-- such a step, from stage to stage
pub record SparedStep (l : Layout) (g : ℕ) (s : Stage) (a : Action) (x : ℕ) (t : Stage) (r : Option (Once Placed)) : Type 0 where
  pub step : AnyStep l g s a x t r
  pub spares : Spares step

line_spared : (l : Layout) (g : ℕ) (s : Stage) (line : Option HeldLine) (a : Action) (x : ℕ) (after : Option HeldLine) → counted s ≡ None → IsLineOf l line → Notes l line a x after → SparedStep l g s a x s None
line_spared l g s line a x after none here (passes_line caller low small) = record { step = beside none (loads_line (caller, low, small)); spares = tt }
line_spared l g s line a x after none here (takes caller low zero_state) = record { step = beside none (loads_line (caller, low, omega arith)); spares = tt }
line_spared l g s line a x after none here (looks_up small learnt blind) = record { step = beside none (loads_line (here.0, here.1, small)); spares = tt }
line_spared l g s line a x after none here (notes small fits marks soils told keeps) = record { step = beside none (stores_line (here.0, here.1, small) fits); spares = tt }
line_spared l g s line a x after none here (keeps_safe small fits hand cleans) = record { step = beside none (drains_line (here.0, here.1, small) fits); spares = tt }

pub any_of : (l : Layout) (g c : ℕ) (f t : Footing) (a : Action) (x : ℕ) (r : Option (Once Placed)) → SparingStep l g c f a x t r → SparedStep l g f.stage a x t.stage r
any_of l g c f t a x r (on_nodes minds kept step deals) = record { step = any.on_nodes step; spares = tt }
any_of l g c f t a x r (on_line {stage = stage} {line = line} {after = after} waits none here note own) = line_spared l g stage line a x after none here note
any_of l g c f t a x r (on_prev none here fits k) = record { step = beside none (any.stores_prev here fits); spares = tt }
any_of l g c f t a x r (on_layer none has) = record { step = beside none (loads_layer has); spares = tt }
any_of l g c f t a x r (on_permutation none here of) = record { step = beside none (any.on_permutation (loads here of)); spares = tt }
