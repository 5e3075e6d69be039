-- The turns of a part of a scan that is made with no other call in flight.
use Rattle.std.proofs.Common.{◌≡◌, ℕ, ◌+◌, ◌≤◌, ◌↔◌, Bool, true, false, List, length, refl, sym, ap, ◌∙◌, subst}
use Rattle.std.specs.Prelude.{Option, Some, None, IfSome, IsSome}
use mathlib.Core.Option.{some-injective}
use Rattle.cat_history.specs.declared.op.NameOp.{NameOp}
use Rattle.cat_history.specs.declared.op.NameOp.TheVariants as op
use Rattle.call_stages.specs.declared.once.Once.{Once}
use Rattle.call_stages.specs.declared.once.Once.TheVariants as once
use Rattle.call_stages.specs.declared.once.Placed.{Placed}
use Rattle.node_ops.specs.declared.part.PartWords.{PartWords}
use Rattle.node_ops.specs.declared.running.Running.{Running}
use Rattle.node_ops.specs.Asked.{op_in, name_asked}
use Rattle.node_ops.specs.CallStages.{reply_of}
use Rattle.node_ops.specs.PartSteps.{IsEarly, early_of, words_placed}
use Rattle.node_ops.specs.RunningSteps.{count_in, listed_in, running_asks}
use Rattle.node_ops.proofs.OpLaw.{op_told}
use Rattle.node_ops.proofs.PartListing.{listed_is_answered}
use Rattle.index_law.specs.Worlds.{facts}
use Rattle.index_core.specs.declared.party.PartyState.{PartyState}
use Rattle.index_core.specs.declared.party.CoreCall.{CoreCall}
use Rattle.index_core.specs.declared.party.CoreCall.TheVariants as call
use Rattle.index_core.specs.declared.party.Whole.{Whole}
use Rattle.index_core.specs.declared.party.Whole.TheVariants as whole
use Rattle.index_core.specs.PartyStates.{party_of, state_with}
use Rattle.index_core.specs.Indexes.{Index, room_of, told, world, IsIndex, IsInFlight, TurnsTo}
use Rattle.index_core.specs.Bursts.{TurnsOn}
use Rattle.index_core.specs.Listings.{IsPartAt, ListsAt}
use Rattle.index_core.specs.Lone.{HasListed, HasListing, IsQuiet, IsStill, IsWholeAnswer, SortsIfStale, LoseAtMost}
use Rattle.index_core.specs.Lone.{RunsAlone, locks_left, most_tries, part_whole, node_for}
use Rattle.index_core.proofs.Alone.{part_early, part_done}
use Rattle.node_ops.specs.Parts.{Confirms, HasCompared}
use Rattle.node_ops.specs.Permuting.{reading_of}
use Rattle.pm_words.specs.Rows.{acted}
use Rattle.index_core.proofs.Bursting.{turns_on}
use Rattle.index_core.proofs.PartsAlone.{listed_node, listed_word, sorts_so}
use Rattle.pm_words.specs.declared.layout.Layout.{Layout}
use Rattle.lone_hops_law.specs.lone_call_law.specs.LoneCalls.{IsThere}
use Rattle.index_core.proofs.Told.{done_of, is_early}
use Rattle.index_core.proofs.Tries.{Lone, lone_each, lone_locks, lone_machine, lone_none, lone_quiet, lone_still}
use Rattle.index_core.proofs.Tries.{lone_there, lone_tries, spare_left, turn_machine, turn_told}

some_same : {a b : Running} → Some a ≡ Some b → a ≡ b
some_same e = cc

-- the machine that is read of a party is its own
pub machine_read : {read state : PartyState} {m own : Running} → read.machine ≡ Some m → read ≡ state → state.machine ≡ Some own → m ≡ own
machine_read is same flies = some_same (sym is ∙ ap (λ (d : PartyState). d.machine) same ∙ flies)

-- whether the machine that is read has listed its names, the party's has
pub has_listing : (s : Index) (i : ℕ) (f : IsInFlight s i) (m : Running) → m ≡ f.machine → IsSome (listed_in m) ↔ HasListing s i
has_listing s i f m same = (
  on (listed_in m) refl,
  (λ h.
      let own : h.1.machine ≡ f.machine = some_same (sym h.1.flies ∙ ap (λ (d : PartyState). d.machine) (some-injective _ _ (sym h.1.there ∙ f.there)) ∙ f.flies) in
      subst IsSome (sym (ap listed_in (same ∙ sym own) ∙ h.1.listed)) refl),
)
  where
    on : (found : Option PartWords) → listed_in m ≡ found → IsSome found → HasListing s i
    on None is has = absurd (cc)
    on (Some words) is has = (words, record { state = f.state; machine = f.machine; there = f.there; flies = f.flies; listed = ap listed_in (sym same) ∙ is })

-- A part of a scan is never answered that there is no room.
pub part_is_not_full : (s0 s : Index) (i : ℕ) (low : List ℕ) (count : ℕ) (r : Whole) → RunsAlone s0 i (call.Part low count) s r → r ≡ whole.Full → ⊥
part_is_not_full s0 s i low count r runs is =
    (subst (IsWholeAnswer (most_tries (call.Part low count)) s0 i (call.Part low count) s) is runs.answer).2

-- What a whole part of a scan leaves.
pub record EndsAlone (s0 s : Index) (i : ℕ) (low : List ℕ) (count : ℕ) (r : Whole) : Type 0 where
  pub runs : RunsAlone s0 i (call.Part low count) s r
  pub quiet : IsQuiet s0 → IsQuiet s
  pub still : (party : ℕ) → IsStill party s0 → IsStill party s
  pub spare : s0.spare + length s0.history ≤ s.spare + length s.history
  pub each_lock : LoseAtMost 1 s0 s
  pub locks : locks_left s0 ≤ locks_left s + 1

module _ (s0 s s' : Index) (i : ℕ) (low : List ℕ) (count : ℕ) (result : Option (Once Placed)) (o : Lone s0 s i (call.Part low count)) (t : TurnsTo s i s' result) (is' : IsIndex s') (room : room_of s ≤ room_of s') where
  abbrev c : CoreCall
  c = call.Part low count

  abbrev m : Running
  m = o.machine

  abbrev on : TurnsOn s i s' result
  on = turns_on t is' room

  -- what it lists it tells of itself
  its_own : (words : PartWords) → HasListed s i words → listed_in m ≡ Some words
  its_own words h = ap listed_in (sym (lone_machine s0 s i c o h.state h.machine h.there h.flies)) ∙ h.listed

  -- its last action gives its version word
  its_word : (words : PartWords) → HasListed s i words → Confirms m (told s m) words
  its_word words h = listed_word s.layout s0.words s.words m words (its_own words h) (subst (λ (l : Layout). IsThere l s0.words s.words m) (sym o.call.trying.start.layout) o.call.stands) o.call.sound.here o.call.sound.layout

  -- how many names it sorted
  sorts : (words : PartWords) → HasListed s i words → (names : ℕ) → HasCompared (reading_of m) names words → SortsIfStale s0 s' words.node names words
  sorts words h names compared =
      let so = sorts_so (world s0) (world s) i low (party_of (state_with o.start.state (length s0.history) m)) m (told s m) names words o.call (its_own words h) (its_word words h) compared in
      let words_are : s'.words ≡ acted s.layout s.words (running_asks m) =
      ap (λ (v : Index). v.words) t.is ∙ (λ k. acted s.layout s.words (running_asks (turn_machine s0 s s' i c result o on k))) in
      record {
        served = λ made. let both = so.served made in (both.0, words_are ∙ both.1);
        sorted = so.sorted;
      }

  -- its last turn
  pub part_last : (words : PartWords) → HasListed s i words → result ≡ Some (once.Done (words_placed words))
  part_last words h = turn_told s0 s s' i c result o on ∙ ap reply_of (listed_is_answered m words (its_own words h) (told s m) (its_word words h))

  -- with an answer it leaves
  ends_alone : (answer : Once Placed) → result ≡ Some answer → (r : Whole) → RunsAlone s0 i c s' r → EndsAlone s0 s' i low count r
  ends_alone answer answered r runs =
      record {
        runs = runs;
        quiet = lone_quiet s0 s s' i c result o on answer answered;
        still = lone_still s0 s s' i c result o on answer answered;
        spare = spare_left s0 s s' i c o room (lone_none s0 s s' i c result o on answer answered);
        each_lock = lone_each s0 s s' i c result o on answer answered;
        locks = lone_locks s0 s s' i c result o on answer answered;
      }

  pub part_ends : (words : PartWords) → HasListed s i words → EndsAlone s0 s' i low count (whole.Part words)
  part_ends words h =
      let listed = its_own words h in
      let answered = part_last words h in
      let node : words.node ≡ node_for s0 low = listed_node s0.layout s0.words s.words low m words listed o.call.of o.call.stands in
      let op_is : op_in m ≡ op.Get low = op_told (op.Get low) m o.call.of in
      let lists : ListsAt s'.layout (facts (world s')) m (told s m) = subst (λ (q : Running). ListsAt s'.layout (facts (world s')) q (told s q)) (turn_machine s0 s s' i c result o on) t.lists in
      let of_words : IfSome (count_in m) (λ (n : ℕ). Confirms m (told s m) words → IsPartAt s'.layout (facts (world s')) (reading_of m) (name_asked (op_in m)) n words) =
      subst (λ (found : Option PartWords). IfSome found (λ (w : PartWords). IfSome (count_in m) (λ (n : ℕ). Confirms m (told s m) w → IsPartAt s'.layout (facts (world s')) (reading_of m) (name_asked (op_in m)) n w))) listed lists in
      let is : IsPartAt s'.layout (facts (world s')) (reading_of m) low count words =
      subst (λ (asked : NameOp). IsPartAt s'.layout (facts (world s')) (reading_of m) (name_asked asked) count words) op_is
      (subst (λ (found : Option ℕ). IfSome found (λ (n : ℕ). Confirms m (told s m) words → IsPartAt s'.layout (facts (world s')) (reading_of m) (name_asked (op_in m)) n words)) o.count of_words (its_word words h)) in
      ends_alone (once.Done (words_placed words)) answered (whole.Part words)
      (part_done s0 s' i low count o.start.before o.start.still words (lone_tries s0 s s' i c result o on (once.Done (words_placed words)) answered) node (reading_of m) is (sorts words h))

  -- one that is answered before is told early
  pub part_is_early : (answer : Once Placed) (found : Bool) → (HasListing s i → found ≡ true) → found ≡ false → result ≡ Some answer → IsEarly answer
  part_is_early answer found tells lacks answered =
      let done = done_of _ answer (sym (turn_told s0 s s' i c result o on) ∙ answered) in
      is_early m (told s m) answer done (subst IsSome (sym o.count) refl) (unlisted (listed_in m) refl)
    where
      unlisted : (found : Option PartWords) → listed_in m ≡ found → found ≡ None
      unlisted None is = refl
      unlisted (Some words) is = absurd (
          let yes = tells (words, record { state = state_with o.start.state (length s0.history) m; machine = m; there = lone_there s0 s i c o; flies = refl; listed = is }) in
          let fails = lacks in
          cc)

  pub part_stops : (answer : Once Placed) (found : Bool) → (HasListing s i → found ≡ true) → found ≡ false → result ≡ Some answer → EndsAlone s0 s' i low count (part_whole (early_of answer))
  part_stops answer found tells lacks answered =
      ends_alone answer answered (part_whole (early_of answer))
      (part_early s0 s' i low count o.start.before o.start.still answer (part_is_early answer found tells lacks answered) (lone_tries s0 s s' i c result o on answer answered)
      (lone_each s0 s s' i c result o on answer answered) (lone_locks s0 s s' i c result o on answer answered))
