-- What a party has that claimed a node, and one that has a log line.
use Rattle.std.specs.Prelude.{◌≡◌, ◌≢◌, ℕ, Bool, List, []}
use mathlib.Core.Option.{some}
use lib.ListN.{get_elem?}
use Rattle.pm_words.specs.declared.layout.Layout.{Layout}
use Rattle.version_lock.specs.Versions.{IsLocked}
use Rattle.call_stages.specs.Stages.{Grip, Tells, Splits, Filling}
use Rattle.call_stages.specs.Lines.{HeldLine}
use Rattle.index_law.specs.Facts.{IsListed}
use Rattle.index_law.specs.Worlds.{Party, World, facts}
use Rattle.index_law.specs.Lawful.{Lawful}
use Rattle.index_law.specs.Lines.{line_in, safe_line, SureLine}

-- The node that a party claimed isn't listed, and isn't node 0; its version word is the claimer's, locked.
pub record IsOutside (w : World) (fresh : Grip) : Type 0 where
  pub unlisted : IsListed (facts w) fresh.node → ⊥
  pub nonzero : fresh.node ≢ 0
  pub stands : (facts w).version fresh.node ≡ fresh.lock
  pub locked : IsLocked fresh.lock

-- It is so from the claim until the switch.
abbrev pub ClaimedAreOutside : Type 0
ClaimedAreOutside = (w : World) (i : ℕ) (p : Party) (left fresh : Grip) (lit : Bool) → Lawful w →
    get_elem? w.parties i ≡ some p →
    p.stage ≡ Splits left fresh (Filling lit) → IsOutside w fresh

-- Where none of its words may differ from their durable twins, what a party knows of its line is durable.
abbrev pub CleanLinesAreDurable : Type 0
CleanLinesAreDurable = (l : Layout) (words : List ℕ) (e : HeldLine) → SureLine l words e → e.dirty ≡ [] →
    Tells e.seen (line_in l words e.caller e.number) × Tells e.seen (safe_line l words e.caller e.number)
