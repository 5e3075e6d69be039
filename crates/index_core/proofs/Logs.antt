-- How many log lines lone calls leave READY, and when such a call needs no turn.
use Rattle.std.proofs.Common.{◌≡◌, ◌≢◌, ℕ, zero, suc, ◌+◌, ◌*◌, ◌/◌, ◌%◌, ◌<◌, ◌⊎◌, Bool, true, false, cond, inl, inr}
use Rattle.std.proofs.Common.{⊎_elim, length, refl, sym, ◌∙◌, subst, arith}
use Rattle.std.proofs.lemmas.Bool.{cases_eq, eqb-true}
use Rattle.pm_words.specs.Codes.{free_status, empty_state}
use Rattle.pm_words.specs.Locations.{Cached}
use Rattle.pm_words.specs.Offsets.{state_offset}
use Rattle.updater.specs.updater_row_law.specs.Columns.{line_count, line_word}
use Rattle.updater.specs.updater_row_law.proofs.RowColumns.{column-here}
use Rattle.updater.specs.Events.{how_many}
use Rattle.index_law.specs.Anchors.{anchors_in, members_most}
use Rattle.index_law.specs.Facts.{Facts}
use Rattle.index_law.specs.Lines.{line_in}
use Rattle.index_law.specs.Worlds.{facts}
use Rattle.index_law.proofs.Noting.{line-here}
use Rattle.index_law.proofs.Sizes.{no_free_is_each, nodes_are_counted}
use Rattle.lone_hops_law.specs.lone_call_law.specs.Splitting.{HasFree, HasLine}
use Rattle.lone_hops_law.specs.lone_call_law.proofs.Locks.{worn_has_none}
use Rattle.lone_hops_law.specs.lone_updater_law.specs.CallLogs.{KeepsLines, MakesReady, is_own_empty}
use Rattle.lone_hops_law.specs.lone_updater_law.specs.LoneTurns.{line_state}
use Rattle.lone_hops_law.specs.lone_updater_law.proofs.ReadyCounts.{empty_are_counted, ready_are_counted}
use Rattle.index_core.specs.declared.party.CoreCall.{CoreCall}
use Rattle.index_core.specs.declared.party.CoreCall.TheVariants as call
use Rattle.index_core.specs.Indexes.{Index, IsIndex, world}
use Rattle.index_core.specs.Lone.{HasNoCalls, HasSameList, MergesFor, NeedsNoTurn, SplitsFor, locks_left, taken_nodes}
use Rattle.index_core.specs.Logs.{LogIsCounted, QuietHasNoneOpen, RoomNeedsNoTurn}
use Rattle.index_core.proofs.LoneTurning.{quiet_is_idle_for_turns}
use Rattle.index_core.proofs.Quiet.{idle_parties}
use Rattle.index_core.proofs.Taken.{gone_few}

pub log_is_counted : LogIsCounted
log_is_counted s caller c new result runs none =
    let ready = ready_are_counted caller (world s) (world new) runs.layout in
    let empty = empty_are_counted caller (world s) (world new) in
    ⊎_elim
    (λ (kept : HasSameList s new × KeepsLines (world s) (world new)). inl (kept.0, ready.0 kept.1, empty.0 kept.1))
    (λ (made : (SplitsFor c s new ⊎ MergesFor c s new) × MakesReady caller (world s) (world new)). inr (made.0, ready.1 made.1, empty.1 made.1))
    (runs.log none).lines

pub quiet_has_none_open : QuietHasNoneOpen
quiet_has_none_open s is quiet = (quiet_is_idle_for_turns s is quiet).lines

-- where some are so, one is
some_of : (test : ℕ → Bool) (n : ℕ) → 0 < how_many test n → (k : ℕ) × (k < n) × (test k ≡ true)
some_of test zero some = absurd (omega arith)
some_of test (suc n) some = elim (test n) as (λ b. test n ≡ b → 0 < cond b (how_many test n + 1) (how_many test n) → (k : ℕ) × (k < suc n) × (test k ≡ true)) [
  | true ↦ λ is many. (n, omega arith, is)
  | false ↦ λ is many. let before = some_of test n many in let below = before.1 in (before.0, omega arith, before.2)
] refl some

-- a caller with an EMPTY line
has_line : (s : Index) (caller : ℕ) → caller < s.layout.callers → (j : ℕ) → j < 8 → is_own_empty caller (world s) j ≡ true → HasLine s.layout s.words caller
has_line s caller here j small is =
    let l = s.layout in
    let k = 8 * caller + j in
    let tie : line_state (world s) k ≡ line_in l s.words (k / 8) (k % 8) state_offset =
    column-here l s.words (line_count l) (λ n. Cached (line_word state_offset n)) k (omega arith) ∙ sym (line-here l s.words (k / 8) (k % 8) state_offset (omega arith, omega arith, omega arith)) in
    let its_caller : k / 8 ≡ caller = omega arith in
    let its_number : k % 8 ≡ j = omega arith in
    record {
      number = j;
      within = small;
      empty = sym ((λ i. line_in l s.words (its_caller i) (its_number i) state_offset)) ∙ sym tie ∙ eqb-true (line_state (world s) k) empty_state is;
    }

-- a node that is FREE, among the first so many, or none
find_free : (f : Facts) (n : ℕ) → ((k : ℕ) × (k < n) × (f.status k ≡ free_status)) ⊎ ((k : ℕ) → k < n → f.status k ≢ free_status)
find_free f zero = inr (λ k below. absurd (omega arith))
find_free f (suc n) = ⊎_elim
    (λ (free : f.status n ≡ free_status). inl (n, omega arith, free))
    (λ (other : f.status n ≢ free_status). ⊎_elim
    (λ (found : (k : ℕ) × (k < n) × (f.status k ≡ free_status)). let below = found.1 in inl (found.0, omega arith, found.2))
    (λ (none : (k : ℕ) → k < n → f.status k ≢ free_status).
    inr (λ k below. ⊎_elim
    (λ (last : k ≡ n). subst (λ (m : ℕ). f.status m ≢ free_status) (sym last) other)
    (λ (apart : k ≢ n). none k (omega arith))
    (cases_eq k n)))
    (find_free f n))
    (cases_eq (f.status n) free_status)

-- there is one where some node is neither listed nor GONE
has_free : (s : Index) → IsIndex s → HasNoCalls s → 0 < locks_left s → taken_nodes s < s.layout.nodes → HasFree s.layout s.generation s.words
has_free s is idle left room = ⊎_elim
    (λ (found : (k : ℕ) × (k < s.layout.nodes) × ((facts (world s)).status k ≡ free_status)). record {
      node = found.0;
      within = found.1;
      free = found.2;
      unworn = λ worn. let none = worn_has_none s.generation (facts (world s)).version found.0 s.layout.nodes found.1 worn in omega arith;
    })
    (λ (none : (k : ℕ) → k < s.layout.nodes → (facts (world s)).status k ≢ free_status).
    let all : length (anchors_in (world s)) ≡ members_most (world s) =
    (nodes_are_counted (world s) is.lawful).all (no_free_is_each (world s) is.lawful (idle_parties s idle) none) in
    let few = gone_few s.layout.nodes (facts (world s)) in
    absurd (omega arith))
    (find_free (facts (world s)) s.layout.nodes)

for_call : (s : Index) (caller : ℕ) (c : CoreCall) → HasLine s.layout s.words caller → HasFree s.layout s.generation s.words → NeedsNoTurn caller c s
for_call s caller (call.Put name value limit) line free = (line, free)
for_call s caller (call.Get name) line free = tt
for_call s caller (call.Del name limit) line free = line
for_call s caller (call.Part low count) line free = tt
for_call s caller (call.Recheck node version) line free = tt
for_call s caller (call.Turn stamp release) line free = tt

pub room_needs_no_turn : RoomNeedsNoTurn
room_needs_no_turn s caller c is idle here left some room =
    let found = some_of (is_own_empty caller (world s)) 8 some in
    for_call s caller c (has_line s caller here found.0 found.1 found.2) (has_free s is idle left room)
