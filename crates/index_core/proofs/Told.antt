-- What a step's call is answered, by its turn, and what the answer of a part lists.
use Rattle.std.proofs.Common.{◌≡◌, ℕ, ◌≤◌, List, ◌++◌, length, refl, sym, ap, ◌∙◌, subst, arith}
use Rattle.std.specs.Prelude.{Option, Some, None, IfSome, IsSome, IsSomeAnd}
use Rattle.pm_words.specs.declared.layout.Layout.{Layout}
use Rattle.pm_words.specs.declared.machine.Turn.{Turn}
use Rattle.pm_words.specs.declared.machine.Turn.TheVariants.{Go, Done}
use Rattle.cat_key.specs.Names.{IsName}
use Rattle.cat_history.specs.Maps.{Map}
use Rattle.cat_history.specs.Writes.{after}
use Rattle.cat_history.specs.declared.op.NameOp.{NameOp}
use Rattle.cat_history.specs.declared.op.Write.{Write}
use Rattle.call_stages.specs.declared.once.Once.{Once}
use Rattle.call_stages.specs.declared.once.Once.TheVariants as once
use Rattle.call_stages.specs.declared.once.Placed.{Placed}
use Rattle.node_ops.specs.declared.part.PartWords.{PartWords}
use Rattle.node_ops.specs.declared.running.Running.{Running}
use Rattle.node_ops.specs.declared.running.Running.TheVariants.{Getting, Putting, Deleting, Parting}
use Rattle.node_ops.specs.Asked.{op_in, name_asked}
use Rattle.node_ops.specs.CallStages.{reply_of}
use Rattle.node_ops.specs.PartSteps.{IsEarly, words_placed}
use Rattle.node_ops.specs.RunningSteps.{IsRunning, running_turned, count_in, listed_in}
use Rattle.node_ops.specs.Parts.{Confirms}
use Rattle.node_ops.specs.Permuting.{reading_of}
use Rattle.node_ops.proofs.PartListing.{done_is_listed}
use Rattle.index_law.specs.Facts.{Facts}
use Rattle.index_law.specs.Lawful.{HasNames}
use Rattle.index_law.proofs.Maps.{after-longer}
use Rattle.index_core.specs.declared.party.CoreReply.{CoreReply}
use Rattle.index_core.specs.declared.party.Stepped.TheVariants.{Going, Answered}
use Rattle.index_core.specs.Indexes.{Index, TurnsTo, StepsTo, told}
use Rattle.index_core.specs.PartyStates.{reply_with, stepped_of, answer_in, listed_by}
use Rattle.index_core.specs.Listings.{IsPartAt, ListsRange, ListsAt}
use Rattle.index_core.specs.Schedules.{PartLists, CallLists}
use Rattle.index_core.proofs.PartFacts.{lists_range, sound_call}

pub go_of : (turn : Turn Running (Once Placed)) → reply_of turn ≡ None → (next : Running) × (turn ≡ Go next)
go_of (Go next) is = (next, refl)
go_of (Done answer) is = absurd (cc)

pub done_of : (turn : Turn Running (Once Placed)) (answer : Once Placed) → reply_of turn ≡ Some answer → turn ≡ Done answer
done_of (Go next) answer is = absurd (cc)
done_of (Done other) answer is = cc

-- A part that has no listing is answered before its place is.
pub is_early : (m : Running) (x : ℕ) (answer : Once Placed) → running_turned m x ≡ Done answer → IsSome (count_in m) → listed_in m ≡ None → IsEarly answer
is_early m x (once.Done placed) is counts none = absurd (subst (λ (o : Option PartWords). IsSomeAnd o (λ w. Confirms m x w × (placed ≡ words_placed w))) none (done_is_listed m x placed counts is))
is_early m x (once.Spent clock) is counts none = tt
is_early m x (once.Worn node word) is counts none = tt
is_early m x (once.Again why) is counts none = tt

-- The action of one that has a listing and is done gives its version word, and its answer is the listing's.
abbrev IsDoneOf : Running → ℕ → PartWords → Once Placed → Type 0
IsDoneOf m x words (once.Done placed) = Confirms m x words × (placed ≡ words_placed words)
IsDoneOf m x words answer = Unit {0}

is_done : (m : Running) (x : ℕ) (answer : Once Placed) → running_turned m x ≡ Done answer → IsSome (count_in m) → (words : PartWords) → listed_in m ≡ Some words → IsDoneOf m x words answer
is_done m x (once.Done placed) is counts words lists = subst (λ (o : Option PartWords). IsSomeAnd o (λ w. Confirms m x w × (placed ≡ words_placed w))) lists (done_is_listed m x placed counts is)
is_done m x (once.Spent clock) is counts words lists = tt
is_done m x (once.Worn node word) is counts words lists = tt
is_done m x (once.Again why) is counts words lists = tt

-- What it is told is its answer,
early_told : (answer : Once Placed) → IsEarly answer → (count : ℕ) → answer_in (reply_with (Some count) None answer) ≡ answer
early_told (once.Done placed) early count = absurd early
early_told (once.Spent clock) early count = refl
early_told (once.Worn node word) early count = refl
early_told (once.Again why) early count = refl

answer_told : (m : Running) (x : ℕ) (answer : Once Placed) → running_turned m x ≡ Done answer → answer_in (reply_with (count_in m) (listed_in m) answer) ≡ answer
answer_told m x answer is = at (count_in m) refl (listed_in m) refl
  where
    at : (count : Option ℕ) → count_in m ≡ count → (listed : Option PartWords) → listed_in m ≡ listed → answer_in (reply_with count listed answer) ≡ answer
    at None counts listed lists = refl
    at (Some count) counts None lists = early_told answer (is_early m x answer is (subst IsSome (sym counts) refl) lists) count
    at (Some count) counts (Some words) lists = with_words answer (is_done m x answer is (subst IsSome (sym counts) refl) words lists)
      where
        with_words : (a : Once Placed) → IsDoneOf m x words a → answer_in (reply_with (Some count) (Some words) a) ≡ a
        with_words (once.Done placed) same = ap (λ (p : Placed). once.Done p) (sym same.1)
        with_words (once.Spent clock) same = refl
        with_words (once.Worn node word) same = refl
        with_words (once.Again why) same = refl

-- and where it lists names, these are the map's at its place.
early_lists : (base : Map) (history : List Write) (low : List ℕ) (count : ℕ) (answer : Once Placed) → IsEarly answer → PartLists base history low count answer (listed_by (reply_with (Some count) None answer))
early_lists base history low count (once.Done placed) early = absurd early
early_lists base history low count (once.Spent clock) early = refl
early_lists base history low count (once.Worn node word) early = refl
early_lists base history low count (once.Again why) early = refl

low_named : (m : Running) → IsRunning m → IsSome (count_in m) → IsName (name_asked (op_in m))
low_named (Getting get) sound counts = absurd cc
low_named (Putting put) sound counts = absurd cc
low_named (Deleting del) sound counts = absurd cc
low_named (Parting p) sound counts = (sound_call p sound).packed.named

pub told_lists : (l : Layout) (f : Facts) (m : Running) (x : ℕ) (answer : Once Placed) → running_turned m x ≡ Done answer → IsRunning m → ((place : ℕ) → HasNames (after f.base f.history place)) → ListsAt l f m x
    → CallLists f.base f.history (op_in m) (count_in m) answer (listed_by (reply_with (count_in m) (listed_in m) answer))
told_lists l f m x answer is sound named = at (count_in m) refl (listed_in m) refl
  where
    at : (count : Option ℕ) → count_in m ≡ count → (listed : Option PartWords) → listed_in m ≡ listed
        → IfSome listed (λ words. IfSome count (λ n. Confirms m x words → IsPartAt l f (reading_of m) (name_asked (op_in m)) n words)) → CallLists f.base f.history (op_in m) count answer (listed_by (reply_with count listed answer))
    at None counts listed lists here = refl
    at (Some count) counts None lists here = early_lists f.base f.history (name_asked (op_in m)) count answer (is_early m x answer is (subst IsSome (sym counts) refl) lists)
    at (Some count) counts (Some words) lists here = with_words answer (is_done m x answer is (subst IsSome (sym counts) refl) words lists)
      where
        with_words : (a : Once Placed) → IsDoneOf m x words a → PartLists f.base f.history (name_asked (op_in m)) count a (listed_by (reply_with (Some count) (Some words) a))
        with_words (once.Done placed) same =
            let low = low_named m sound (subst IsSome (sym counts) refl) in
            record { placed_so = sym same.1; lists = lists_range l f (reading_of m) (name_asked (op_in m)) count words low (named words.place) (here same.0) }
        with_words (once.Spent clock) same = refl
        with_words (once.Worn node word) same = refl
        with_words (once.Again why) same = refl

-- So they stay as the history grows past the place.
pub longer_lists : (base : Map) (h more : List Write) (o : NameOp) (count : Option ℕ) (answer : Once Placed) (part : Option PartWords) → ((placed : Placed) → answer ≡ once.Done placed → placed.place ≤ length h)
    → CallLists base h o count answer part → CallLists base (h ++ more) o count answer part
longer_lists base h more o None answer part within is = is
longer_lists base h more o (Some count) (once.Done placed) None within is = is
longer_lists base h more o (Some count) (once.Done placed) (Some words) within is =
    let place : words.place ≡ placed.place = ap (λ (p : Placed). p.place) is.placed_so in
    let here = within placed refl in
    record { placed_so = is.placed_so; lists = subst (λ (m : Map). ListsRange m (name_asked o) count words) (sym (after-longer base h more words.place (omega arith))) is.lists }
longer_lists base h more o (Some count) (once.Spent clock) part within is = is
longer_lists base h more o (Some count) (once.Worn node word) part within is = is
longer_lists base h more o (Some count) (once.Again why) part within is = is

-- A step that goes on, and one whose call is answered, by its turn and the machine m before it.
pub steps_on : (old new : Index) (party : ℕ) → TurnsTo old party new None → StepsTo old party new Going
steps_on old new party t =
    let go = go_of (running_turned t.machine (told old t.machine)) (sym t.answers) in
    record { turned = t; comes_to = ap (stepped_of t.machine) (sym go.1) }

pub steps_off : (old new : Index) (party : ℕ) (m : Running) (answer : Once Placed) (t : TurnsTo old party new (Some answer)) → m ≡ t.machine
    → StepsTo old party new (Answered (reply_with (count_in m) (listed_in m) answer))
steps_off old new party m answer t same =
    let done = done_of (running_turned t.machine (told old t.machine)) answer (sym t.answers) in
    let replies : reply_with (count_in m) (listed_in m) answer ≡ reply_with (count_in t.machine) (listed_in t.machine) answer = ap (λ (q : Running). reply_with (count_in q) (listed_in q) answer) same in
    let is : Some (answer_in (reply_with (count_in m) (listed_in m) answer)) ≡ Some answer = ap (λ (r : CoreReply). Some (answer_in r)) replies ∙ ap Some (answer_told t.machine (told old t.machine) answer done) in
    let turned = subst (λ (o : Option (Once Placed)). (u : TurnsTo old party new o) × (u.machine ≡ t.machine)) (sym is) (t, refl) in
    record {
      turned = turned.0;
      comes_to = ap Answered replies ∙ ap (stepped_of t.machine) (sym done) ∙ (λ k. stepped_of (sym turned.1 k) (running_turned (sym turned.1 k) (told old (sym turned.1 k))));
    }
