-- A call that is alone, by bursts of its machine.
use Rattle.std.proofs.Common.{◌≡◌, ℕ, suc, ◌+◌, ◌≤◌, length, refl, arith}
use Rattle.std.specs.Prelude.{Option, Some, None}
use Rattle.call_stages.specs.declared.once.Once.{Once}
use Rattle.call_stages.specs.declared.once.Placed.{Placed}
use Rattle.index_core.specs.declared.party.CoreCall.{CoreCall}
use Rattle.index_core.specs.Bursts.{BurstsTo, TurnsAlong, at_first, one_more}
use Rattle.index_core.specs.Costs.{TriesWithin}
use Rattle.index_core.specs.Indexes.{Index}
use Rattle.index_core.specs.Lone.{IsQuiet, LoseAtMost, TriesAlone, locks_left}
use Rattle.index_core.proofs.Costs.{first_left}
use Rattle.index_core.proofs.InTime.{end_in_time}
use Rattle.index_core.proofs.Tries.{Lone, cost_at, left_at, lone_costs, lone_each, lone_goes, lone_locks, lone_none}
use Rattle.index_core.proofs.Tries.{lone_quiet, lone_tries, spare_left}

-- where it has come by turns that went on
record HasGone (s0 s now : Index) (i : ℕ) (c : CoreCall) (turns : ℕ) : Type 0 where
  lone : Lone s0 now i c
  left : left_at now i + turns ≤ left_at s i
  cost : cost_at now i + turns ≤ cost_at s i

has_gone : {s0 s : Index} {i : ℕ} {c : CoreCall} {now : Index} {turns : ℕ} → Lone s0 s i c
    → TurnsAlong s i now turns → HasGone s0 s now i c turns
has_gone o at_first = record { lone = o; left = omega arith; cost = omega arith }
has_gone {s0} {i = i} {c = c} o (one_more {now = now} {next = next} before t) =
    let was = has_gone o before in
    let go = lone_goes s0 now next i c None was.lone t refl in
    let costs = lone_costs s0 now next i c None was.lone t refl in
    record { lone = go.0; left = omega (arith, go.1, was.left); cost = omega (arith, costs, was.cost) }

-- What a try of it comes to.
pub record TryEnds (s0 s : Index) (i : ℕ) (c : CoreCall) (answer : Once Placed) (before after : ℕ) : Type 0 where
  pub tries : TriesAlone s0 i c s answer
  pub quiet : IsQuiet s0 → IsQuiet s
  pub spare : s0.spare + length s0.history ≤ s.spare + length s.history
  pub each_lock : LoseAtMost 1 s0 s
  pub locks : locks_left s0 ≤ locks_left s + 1
  pub events : TriesWithin s0 c before after

module _ (s0 s s' : Index) (i : ℕ) (c : CoreCall) (result : Option (Once Placed)) (begun ended : ℕ)
    (o : Lone s0 s i c) (b : BurstsTo s i s' result begun ended) where
  gone : HasGone s0 s b.last i c b.turns
  gone = has_gone o b.before

  -- a burst that goes on, from so many events on
  pub burst_goes : result ≡ None → (before : ℕ) → begun + cost_at s i ≤ before + first_left s0.layout c
      → Lone s0 s' i c × (suc (left_at s' i) ≤ left_at s i) × (ended + cost_at s' i ≤ before + first_left s0.layout c)
  burst_goes going before within =
      let was = gone in
      let go = lone_goes s0 b.last s' i c result was.lone b.turn going in
      let costs = lone_costs s0 b.last s' i c result was.lone b.turn going in
      (go.0, omega (arith, go.1, was.left), omega (arith, within, costs, was.cost, b.steps))

  -- one that ends its try
  pub burst_ends : (answer : Once Placed) → result ≡ Some answer → (before : ℕ)
      → begun + cost_at s i ≤ before + first_left s0.layout c → TryEnds s0 s' i c answer before ended
  burst_ends answer answered before within =
      let was = gone in
      let l = was.lone in
      record {
        tries = lone_tries s0 b.last s' i c result l b.turn answer answered;
        quiet = lone_quiet s0 b.last s' i c result l b.turn answer answered;
        spare = spare_left s0 b.last s' i c l b.turn.room (lone_none s0 b.last s' i c result l b.turn answer answered);
        each_lock = lone_each s0 b.last s' i c result l b.turn answer answered;
        locks = lone_locks s0 b.last s' i c result l b.turn answer answered;
        events = end_in_time s0 b.last i c l 0 before (begun + b.turns) ended (omega (arith, within, was.cost))
            (omega (arith, b.steps)) answer;
      }
