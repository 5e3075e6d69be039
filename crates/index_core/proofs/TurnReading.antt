-- What the code of a turn of the updater has in hand.
use Rattle.std.proofs.Common.{◌≡◌, ℕ, List, get_or, set, subst, arith}
use Rattle.std.specs.Prelude.{Option, Some, IfSome}
use mathlib.Core.Option.{some}
use lib.ListN.{get_elem?}
use Rattle.pm_words.specs.Images.{Row}
use Rattle.pm_words.specs.Rows.{acted}
use Rattle.updater.specs.declared.making.MakeTurn.{MakeTurn}
use Rattle.updater.specs.Makings.{IsMaking, making_from, making_asks, making_turned}
use Rattle.index_core.specs.declared.party.PartyState.{PartyState}
use Rattle.index_core.specs.PartyStates.{owed, state_turned, IsTurnOf}
use Rattle.index_core.specs.Indexes.{Index, IsIndex, IsTurning}
use Rattle.index_core.specs.Turns.{turn_begun, turn_told, turned_index, TurnLaw}
use Rattle.index_core.proofs.Found.{Found, finds}
use Rattle.index_core.proofs.Lists.{owed-set}
use Rattle.index_core.proofs.Turning.{turns_keep}

pub record TurnRead (s : Index) (i : ℕ) (e r : PartyState) (m read : MakeTurn) : Type 0 where
  pub found : Found s i e r m read
  pub sound : IsMaking m
  pub law : TurnLaw s i e m

pub turn_reads : (s old : Index) (i : ℕ) (f : IsTurning old i) (r : PartyState) (read : MakeTurn) → s.states ≡ old.states → IsIndex s → r ≡ get_or s.states i r → r.turn ≡ Some read → TurnRead s i f.state r f.machine read
turn_reads s old i f r read states is found has =
    let at = finds (λ (d : PartyState). d.turn) s old i f r read states found has in
    record {
      found = at;
      sound = (subst (λ (o : Option MakeTurn). IfSome o (IsTurnOf s.layout s.generation)) f.flies (is.states i f.state at.there).turn).sound;
      law = turns_keep s i f.state f.machine is at.there f.flies;
    }

-- turns of the updater owe no write
pub turn_owes : (states : List PartyState) (i : ℕ) (e : PartyState) (turn : Option MakeTurn) → get_elem? states i ≡ some e → owed (set states i (record e { turn = turn })) ≡ owed states
turn_owes states i e turn there = let moved = owed-set states i e (record e { turn = turn }) there in omega arith

-- The index that a step leaves, at values that are equal to its own.
pub turn_at : (s : Index) (i : ℕ) (e now : PartyState) (m : MakeTurn) (row : Row) (spare : ℕ) → row ≡ record { layout = s.layout; words = acted s.layout s.words (making_asks m) } → now ≡ state_turned e (making_turned m (turn_told s m)) → spare ≡ s.spare
    → Path Index (record { layout = row.layout; generation = s.generation; words = row.words; states = set s.states i now; base = s.base; history = s.history; spare = spare }) (turned_index s i e m)
turn_at s i e now m row spare at_row at_now at_spare = λ k. record { layout = (at_row k).layout; generation = s.generation; words = (at_row k).words; states = set s.states i (at_now k); base = s.base; history = s.history; spare = at_spare k }

-- And the one that a start leaves.
pub turn_begun_at : (s : Index) (i stamp release : ℕ) (e : PartyState) (m : MakeTurn) (spare : ℕ) → m ≡ making_from s.layout s.generation stamp release → spare ≡ s.spare
    → Path Index (record s { states = set s.states i (record e { turn = Some m }); spare = spare }) (turn_begun s i e stamp release)
turn_begun_at s i stamp release e m spare at_m at_spare = λ k. record s { states = set s.states i (record e { turn = Some (at_m k) }); spare = at_spare k }
