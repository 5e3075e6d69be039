-- Callers of a round that a crash ends: what each one's replies say, and which round they make that stopped in one
-- history.
use Rattle.std.specs.Prelude.{◌≡◌, ◌≢◌, ℕ, ◌<◌, ◌≤◌, ◌⊎◌, List, [], ◌∷◌, ◌++◌, All, Some, flat_map, length, slice_get}
use mathlib.Core.Option.{some}
use lib.ListN.{get_elem?}
use Rattle.cat_history.specs.CrashEnds.{IsCrashEnd}
use Rattle.cat_history.specs.CrashRounds.{IsStoppedRound, IsUnsettled, StopsOnce, changes_cut}
use Rattle.cat_history.specs.Maps.{Map}
use Rattle.cat_history.specs.Records.{numbered}
use Rattle.cat_history.specs.Rounds.{IsAnswered}
use Rattle.cat_history.specs.declared.op.CallerOp.{CallerOp}
use Rattle.cat_history.specs.declared.op.Change.{Change}
use Rattle.cat_history.specs.declared.op.Op.{Op}
use Rattle.cat_history.specs.declared.op.Write.{Write}
use Rattle.cat_history.specs.declared.record.Record.{Record}
use Rattle.cat_history.specs.declared.record.Reply.TheVariants.{Unstarted}
use Rattle.stopped_rounds.specs.LoneStops.{IsWithin}
use Rattle.stopped_rounds.specs.MoreCuts.{AreAmong}
use Rattle.caller_rounds.specs.CallerRounds.{HasReplies, IsNextReply, asked_of, by_caller}

-- A caller that was asked these has come so far with its calls and stopped once: behind a call that wasn't answered it
-- began none. What became of a write that was cut off without a place is open. One whose calls were all answered is
-- such a caller too.
pub record HasStopped (base : Map) (limit caller : ℕ) (asked : List Op) (seen : List Write) (records : List Record) :
    Type 0 where
  pub replies : HasReplies base limit caller asked seen records
  pub once : StopsOnce records
  pub unsettled : All (λ r. IsUnsettled r.reply) records

-- One call more, answered or cut off where all before it were answered, and else not begun.
abbrev pub StopsFollow : Type 0
StopsFollow = (base : Map) (limit caller : ℕ) (asked : List Op) (old new : List Write) (records : List Record)
    (r : Record) → HasStopped base limit caller asked old records → IsNextReply base limit caller asked old new r →
    (All (λ q. IsAnswered q.reply) records ⊎ (r.reply ≡ Unstarted)) → IsUnsettled r.reply →
    HasStopped base limit caller (asked ++ r.op ∷ []) new (records ++ r ∷ [])

-- One call more that was not begun.
abbrev pub UnstartedFollow : Type 0
UnstartedFollow = (base : Map) (limit caller : ℕ) (asked : List Op) (seen : List Write) (records : List Record)
    (op : Op) → HasStopped base limit caller asked seen records →
    HasStopped base limit caller (asked ++ op ∷ []) seen (records ++ record {
      caller = caller;
      index = length asked;
      op = op;
      reply = Unstarted;
    } ∷ [])

-- One call more within a budget: with none it wasn't begun, and if it is the first one it was begun with one.
abbrev pub WithinFollows : Type 0
WithinFollows = (budget : ℕ) (records : List Record) (r : Record) → IsWithin budget records →
    (budget ≡ 0 → r.reply ≡ Unstarted) → (records ≡ [] → 0 < budget → r.reply ≢ Unstarted) →
    IsWithin budget (records ++ r ∷ [])

-- Each caller's records, at the place of its number, tell how far it came with its calls of the script in this history,
-- and where it stopped within its budget, if it has one.
pub record EachHasStopped (base : Map) (limit : ℕ) (budgets : List ℕ) (asked : List CallerOp) (history : List Write)
    (told : List (List Record)) : Type 0 where
  pub stopped : (i : ℕ) (records : List Record) → get_elem? told i ≡ some records →
      HasStopped base limit i (asked_of i asked) history records
  pub within : (i budget : ℕ) (records : List Record) → get_elem? told i ≡ some records →
      slice_get budgets i ≡ Some budget → IsWithin budget records

abbrev pub StopsMakeRound : Type 0
StopsMakeRound = (base : Map) (limit : ℕ) (budgets : List ℕ) (asked : List CallerOp) (history : List Write)
    (told : List (List Record)) → EachHasStopped base limit budgets asked history told →
    All (λ w. w.caller < length told) history → All (λ a. a.caller < length told) asked →
    IsStoppedRound base (numbered asked) limit budgets (by_caller told) history

-- Where of each caller's changes in flight its records tell, what a crash leaves of all of them is what it may leave of
-- those that the records tell.
abbrev pub StopsEndSo : Type 0
StopsEndSo = (m : Map) (cuts : List (List Change)) (told : List (List Record)) (end : Map) →
    length cuts ≤ length told →
    ((i : ℕ) (changes : List Change) (records : List Record) → get_elem? cuts i ≡ some changes →
    get_elem? told i ≡ some records → AreAmong changes (changes_cut records)) →
    IsCrashEnd m (flat_map (λ changes. changes) cuts) end → IsCrashEnd m (changes_cut (by_caller told)) end
