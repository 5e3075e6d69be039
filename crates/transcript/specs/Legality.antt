-- Which rounds are legal, in the words of the history alone, and that those are the rounds that keep the eight rules.
use Rattle.std.specs.Prelude.{◌≡◌, ℕ, ◌≤◌, ◌↔◌, ◌⊎◌, true, false, List, length, Ok, Err}
use Rattle.std.specs.FinMap.{len}
use Rattle.std.specs.declared.result.Result.{Result}
use Rattle.cat_key.specs.declared.Pair.{Pair}
use Rattle.cat_history.specs.CrashRounds.{IsCrashRound}
use Rattle.cat_history.specs.Maps.{Map}
use Rattle.cat_history.specs.Rounds.{IsJoinedRound}
use Rattle.cat_history.specs.Replays.{pairs_of}
use Rattle.cat_history.specs.declared.op.Write.{Write}
use Rattle.cat_history.specs.declared.record.Record.{Record}
use Rattle.transcript.specs.Rules.{Case, Keeps, IsFirstBroken, EndsAsSaid, IsItsEnd}
use Rattle.transcript.specs.declared.asking.Judged.{Judged}
use Rattle.transcript.specs.declared.asking.Judged.TheVariants.{Illegal, NoMemory}
use Rattle.transcript.specs.declared.asking.RoundEnd.{RoundEnd}

-- The round is a legal one that ends with this map: a joined round, or one that a crash ended, as the history has them,
-- with as many writes and names as its end says.
pub record IsLegal (c : Case) (end : Map) : Type 0 where
  pub writes : List Write
  pub joined : c.end.crashed ≡ false → IsJoinedRound c.base c.calls c.end.limit c.told writes end
  pub crashed : c.end.crashed ≡ true → IsCrashRound c.base c.calls c.end.limit c.end.budgets c.told writes end
  pub writes_told : length writes ≡ c.end.writes
  pub names_told : len end ≡ c.end.names

-- The round keeps all eight rules.
abbrev pub KeepsAll : Case → Type 0
KeepsAll c = (rule : ℕ) → 1 ≤ rule → rule ≤ 8 → Keeps c rule

-- A round is legal exactly where it keeps all eight rules,
abbrev pub RulesAreLegality : Type 0
RulesAreLegality = (c : Case) → ((end : Map) × IsLegal c end) ↔ KeepsAll c

-- with one map at its end,
abbrev pub OneEnd : Type 0
OneEnd = (c : Case) (end other : Map) → IsLegal c end → IsLegal c other → end ≡ other

-- and one rule is the first that another round breaks.
abbrev pub OneFirstBroken : Type 0
OneFirstBroken = (c : Case) (rule other : ℕ) → IsFirstBroken c rule → IsFirstBroken c other → rule ≡ other

-- A legal round breaks no rule.
abbrev pub LegalBreaksNone : Type 0
LegalBreaksNone = (c : Case) (end : Map) (rule : ℕ) → IsLegal c end → IsFirstBroken c rule → ⊥

-- This is the answer, unless there was no memory.
abbrev pub IsAnswer : Result (List Pair) Judged → Result (List Pair) Judged → Type 0
IsAnswer result answer = (result ≡ answer) ⊎ (result ≡ Err NoMemory)

-- The judgement on a round: the map at its end, where it is legal, and else the first rule that it breaks. Of want of
-- memory nothing is said.
abbrev pub IsJudgement : Case → Result (List Pair) Judged → Type 0
IsJudgement c (Ok pairs) = (m : Map) × IsLegal c m × (pairs ≡ pairs_of m)
IsJudgement c (Err (Illegal rule)) = IsFirstBroken c rule
IsJudgement c (Err NoMemory) = Unit {0}

-- The map at the end of a round that ended as said, with as many names as its end says.
pub record IsRightEnd (base : Map) (told : List Record) (end : RoundEnd) (writes : List Write) (m : Map) : Type 0 where
  pub ends : EndsAsSaid base told end writes
  pub is_end : IsItsEnd base told end writes m
  pub names : len m ≡ end.names

-- The judgement by the last two rules.
abbrev pub IsEndJudgement : Map → List Record → RoundEnd → List Write → Result (List Pair) Judged → Type 0
IsEndJudgement base told end writes (Ok pairs) = (m : Map) × IsRightEnd base told end writes m × (pairs ≡ pairs_of m)
IsEndJudgement base told end writes (Err (Illegal rule)) = ((rule ≡ 7) × (EndsAsSaid base told end writes → ⊥))
    ⊎ ((rule ≡ 8) × EndsAsSaid base told end writes × ((m : Map) → IsRightEnd base told end writes m → ⊥))
IsEndJudgement base told end writes (Err NoMemory) = Unit {0}
