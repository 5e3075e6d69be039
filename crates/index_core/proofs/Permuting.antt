-- What keeps the permutations of an index's nodes, and what is read of them.
use Rattle.std.proofs.Common.{◌≡◌, ◌≢◌, ℕ, ◌<◌, ◌^◌, ◌⊎◌, inl, inr, ⊎_elim, List, [], ◌++◌, length, set, map, refl, sym, ap, ◌∙◌, subst}
use Rattle.std.specs.Prelude.{Bool, Option, Some, None, IfSome, slice_set}
use mathlib.Core.Option.{some}
use lib.ListN.{get_elem?}
use Rattle.cat_key.specs.declared.Pair.{Pair}
use Rattle.cat_history.specs.Maps.{Map, map_of}
use Rattle.cat_history.specs.declared.op.Write.{Write}
use Rattle.pm_words.specs.declared.layout.Layout.{Layout}
use Rattle.pm_words.specs.declared.action.Action.{Action}
use Rattle.pm_words.specs.declared.machine.Turn.{Turn}
use Rattle.pm_words.specs.declared.machine.Turn.TheVariants.{Go, Done}
use Rattle.pm_words.specs.Codes.{no_permutation}
use Rattle.pm_words.specs.Locations.{image_words}
use Rattle.pm_words.specs.Rows.{acted, evicted, got}
use Rattle.call_stages.specs.declared.once.Once.{Once}
use Rattle.call_stages.specs.declared.once.Placed.{Placed}
use Rattle.call_stages.specs.Stages.{Stage, Holds, Held, counted}
use Rattle.call_stages.specs.AnySteps.{AnyStep}
use Rattle.permutation.specs.Sortings.{Sorting, Sorts}
use Rattle.permutation_law.specs.Permuted.{made_at, Permuted, IsPermuted}
use Rattle.permutation_law.specs.Laws.{HasRead, IsSameNode, Spares}
use Rattle.permutation_law.proofs.Columns.{IsLeft}
use Rattle.permutation_law.proofs.Frames.{evictions_leave, frames_permute, idle_may_change, rest_permuted}
use Rattle.permutation_law.proofs.Reading.{frames_keep_reading, reading_begins, reading_goes_on, reading_is_kept, reading_serves, sorts_keep_reading}
use Rattle.permutation_law.proofs.Sorting.{sorts_permute}
use Rattle.permutation_law.proofs.Steps.{steps_permute}
use Rattle.data_node.specs.Lists.{ListNode, range_in}
use Rattle.index_law.specs.Facts.{Facts, facts_of, list_in, spot_in, version_in}
use Rattle.index_law.specs.Footed.{AreAlike}
use Rattle.index_law.specs.Lawful.{Lawful, Sure}
use Rattle.index_law.specs.Worlds.{Party, World, facts, moved_on, stepped, written}
use Rattle.index_law.proofs.AnySteps.{held_ranges_stay}
use Rattle.index_law.proofs.Evictions.{evict_facts}
use Rattle.index_law.proofs.Footed.{alike_here}
use Rattle.index_law.proofs.Parties.{at_set, set_here}
use Rattle.node_ops.specs.declared.running.Running.{Running}
use Rattle.node_ops.specs.CallStages.{stage_of, stage_after, reply_of}
use Rattle.node_ops.specs.RunningSteps.{Sound, running_asks, running_turned}
use Rattle.node_ops.specs.Parts.{EndsAt, HasEnd, HeldEnd, Relies, end_after, end_of}
use Rattle.node_ops.specs.Permuting.{PermutationRead, sorting_of, reading_of, sorting_after, reading_after, Permutes, sorts, leaves, Rereads, has_none, stays, begins, goes_on}
use Rattle.node_ops.proofs.PartBounds.{ends_are_held, ends_stay}
use Rattle.index_core.specs.declared.party.PartyState.{PartyState}
use Rattle.index_core.specs.PartyStates.{machine_stage, party_of, state_after}
use Rattle.index_core.specs.Permuting.{AreRelying, IsReadSo, IsRelying, machine_end, machine_reading, machine_sorting, sortings_of}
use Rattle.index_core.specs.Indexes.{Index, permuted, stepped_index, told, world}
use Rattle.index_core.proofs.Layering.{map_own}
use Rattle.index_core.proofs.Lists.{map_from, map_set, map_there, set_twice}

-- Both of it: the permutations, and what parties rely on.
abbrev pub HasPermutations : Index → Type 0
HasPermutations s = IsPermuted (permuted s) × AreRelying s.layout s.generation (facts (world s)) s.words s.states

abbrev pub sorting_at : PartyState → Sorting
sorting_at state = machine_sorting state.machine

-- A call relies on nothing, or a party stood at its place that had the same.
abbrev pub IsFreshOrSame : List PartyState → ℕ → Option Running → Type 0
IsFreshOrSame before i machine = ((machine_reading machine ≡ None) × (machine_end machine ≡ None)) ⊎
    ((was : PartyState) × (get_elem? before i ≡ some was) × (was.machine ≡ machine))

abbrev pub AreFreshOrSame : List PartyState → List PartyState → Type 0
AreFreshOrSame before states = (i : ℕ) (now : PartyState) → get_elem? states i ≡ some now → IsFreshOrSame before i now.machine

-- What is said of the nodes and their permutations is the same, and the list is.
pub record IsSameRow (l : Layout) (words words' : List ℕ) : Type 0 where
  pub nodes : (n : ℕ) → n < l.nodes → IsSameNode l words words' n
  pub list : list_in l words' ≡ list_in l words

pub same_row : (l : Layout) (words : List ℕ) → IsSameRow l words words
same_row l words = record { nodes = λ n here. record { version = refl; now = refl; made = refl; permutation = refl }; list = refl }

-- so it is where that is so of the facts, and a row leaves all permutations
pub row_by_facts : (l : Layout) (words words' : List ℕ) (base : Map) (history : List Write) → (facts_of l words' base history).version ≡ version_in l words → (facts_of l words' base history).now ≡ spot_in l words
    → (facts_of l words' base history).list ≡ list_in l words → ((n : ℕ) → n < l.nodes → IsLeft l words words' n) → IsSameRow l words words'
row_by_facts l words words' base history version now list left = record {
  nodes = λ n here. record { version = λ k. version k n; now = λ k. now k n; made = (left n here).made; permutation = (left n here).permutation };
  list = list;
}

relies_on_nothing : (l : Layout) (g : ℕ) (f : Facts) (words : List ℕ) (machine : Option Running) → machine_reading machine ≡ None → machine_end machine ≡ None → IsRelying l g f words machine
relies_on_nothing l g f words machine reading end = record {
  read = subst (λ (o : Option PermutationRead). IfSome o (IsReadSo l g f words)) (sym reading) tt;
  end = subst (HasEnd l f) (sym end) tt;
}

-- what a party relies on, where all that is said of nodes is the same
module _ (l : Layout) (g : ℕ) (words words' : List ℕ) (base base' : Map) (history history' : List Write) (same : IsSameRow l words words') where
  abbrev f : Facts
  f = facts_of l words base history

  abbrev f' : Facts
  f' = facts_of l words' base' history'

  read_so : (r : Option PermutationRead) → IfSome r (IsReadSo l g f words) → IfSome r (IsReadSo l g f' words')
  read_so None read = tt
  read_so (Some r) read = let node = same.nodes r.node read.here in frames_keep_reading l g f f' words words' r.node r.version r.seen node.version node.made node.permutation read

  ends_so : (e : Option HeldEnd) → HasEnd l f e → HasEnd l f' e
  ends_so None end = tt
  ends_so (Some e) end = subst (λ (ms : List ListNode). EndsAt (λ (name : List ℕ). range_in ms e.node name) e.low e.high) (sym same.list) end

  relies_so : (machine : Option Running) → IsRelying l g f words machine → IsRelying l g f' words' machine
  relies_so machine relies = record { read = read_so (machine_reading machine) relies.read; end = ends_so (machine_end machine) relies.end }

-- The words of nodes and their permutations stay, while parties that have made the same of them take the place of
-- others, and whatever base and history come.
module _ (s : Index) (words : List ℕ) (states : List PartyState) (base : List Pair) (history : List Write) where
  abbrev after : Index
  after = record s { words = words; states = states; base = base; history = history }

  still_relying : IsSameRow s.layout s.words words → AreRelying s.layout s.generation (facts (world s)) s.words s.states → AreFreshOrSame s.states states
      → AreRelying s.layout s.generation (facts (world after)) words states
  still_relying same relying fresh i now at = ⊎_elim
      (λ (nothing : (machine_reading now.machine ≡ None) × (machine_end now.machine ≡ None)). relies_on_nothing s.layout s.generation (facts (world after)) words now.machine nothing.0 nothing.1)
      (λ was. subst (IsRelying s.layout s.generation (facts (world after)) words) was.2
      (relies_so s.layout s.generation s.words words (map_of s.base) (map_of base) s.history history same was.0.machine (relying i was.0 was.1)))
      (fresh i now at)

  pub framed : HasPermutations s → Lawful (world after) → AreAlike (map party_of s.states) (map party_of states) → sortings_of states ≡ sortings_of s.states → IsSameRow s.layout s.words words
      → AreFreshOrSame s.states states → HasPermutations after
  framed is lawful alike sortings same fresh = (
    subst (λ (q : List Sorting). IsPermuted (record { world = world after; sortings = q })) (sym sortings)
        (frames_permute (permuted s) words (map party_of states) (map_of base) history is.0 lawful alike same.nodes),
    still_relying same is.1 fresh,
  )

  -- or where no call is in flight, others that are idle
  pub idled : HasPermutations s → ((i : ℕ) (state : PartyState) → get_elem? s.states i ≡ some state → state.machine ≡ None) → ((i : ℕ) (state : PartyState) → get_elem? states i ≡ some state → state.machine ≡ None)
      → Lawful (world after) → IsSameRow s.layout s.words words → HasPermutations after
  idled is quiet idle lawful same = (
    idle_may_change (permuted s) words (map party_of states) (map_of base) history (sortings_of states) is.0
        (λ i p at. let from = map_from party_of s.states i p at in sym (ap (λ (q : Party). q.stage) from.2) ∙ ap machine_stage (quiet i from.0 from.1))
        lawful
        (λ i q at. let from = map_from sorting_at states i q at in sym from.2 ∙ ap machine_sorting (idle i from.0 from.1))
        same.nodes,
    still_relying same is.1 (λ i now at. inl (ap machine_reading (idle i now at), ap machine_end (idle i now at))),
  )

-- No party has a call, and no permutation was made.
pub resting : (s : Index) → Lawful (world s) → ((i : ℕ) (state : PartyState) → get_elem? s.states i ≡ some state → state.machine ≡ None)
    → ((n : ℕ) → n < s.layout.nodes → made_at s.layout s.words n ≡ no_permutation) → HasPermutations s
resting s lawful idle made = (
  rest_permuted (world s) (sortings_of s.states) lawful (λ i q at. let from = map_from sorting_at s.states i q at in sym from.2 ∙ ap machine_sorting (idle i from.0 from.1)) (λ n here. inl (made n here)),
  λ i state at. relies_on_nothing s.layout s.generation (facts (world s)) s.words state.machine (ap machine_reading (idle i state at)) (ap machine_end (idle i state at)),
)

-- One party is another, at the same stage, which has made the same of a permutation, and relies on the same, or on
-- nothing.
module _ (s : Index) (i : ℕ) (was now : PartyState) (there : get_elem? s.states i ≡ some was) where
  abbrev one : Index
  one = record s { states = set s.states i now }

  one_relies : ((machine_reading now.machine ≡ None) × (machine_end now.machine ≡ None)) ⊎ (was.machine ≡ now.machine) → AreFreshOrSame s.states (set s.states i now)
  one_relies relies j state at = ⊎_elim
      (λ (mine : (j ≡ i) × (now ≡ state)). subst (λ (d : PartyState). IsFreshOrSame s.states j d.machine) mine.1
      (⊎_elim (λ nothing. inl nothing) (λ same. inr (was, ap (get_elem? s.states) mine.0 ∙ there, same)) relies))
      (λ (other : (j ≢ i) × (get_elem? s.states j ≡ some state)). inr (state, other.1, refl))
      (at_set s.states i j now state at)

  alike : now.caller ≡ was.caller → machine_stage now.machine ≡ machine_stage was.machine → AreAlike (map party_of s.states) (map party_of (set s.states i now))
  alike caller stage =
      subst (AreAlike (map party_of s.states)) (sym (map_set party_of s.states i now))
      (alike_here (map party_of s.states) i (party_of was) (party_of now) (map_there party_of s.states i was there) caller stage)

  same_sortings : machine_sorting now.machine ≡ machine_sorting was.machine → sortings_of (set s.states i now) ≡ sortings_of s.states
  same_sortings same = map_own sorting_at s.states i was now there same

  pub one_permuted : HasPermutations s → Lawful (world one) → now.caller ≡ was.caller → machine_stage now.machine ≡ machine_stage was.machine → machine_sorting now.machine ≡ machine_sorting was.machine
      → ((machine_reading now.machine ≡ None) × (machine_end now.machine ≡ None)) ⊎ (was.machine ≡ now.machine) → HasPermutations one
  one_permuted is lawful caller stage sorting relies =
      framed s s.words (set s.states i now) s.base s.history is lawful (alike caller stage) (same_sortings sorting) (same_row s.layout s.words) (one_relies relies)

  -- or has the same call, where words of the row are others that aren't of nodes and their permutations
  pub beside_permuted : (words : List ℕ) → HasPermutations s → Lawful (world (record s { words = words; states = set s.states i now })) → now.caller ≡ was.caller → was.machine ≡ now.machine
      → IsSameRow s.layout s.words words → HasPermutations (record s { words = words; states = set s.states i now })
  beside_permuted words is lawful caller machine same =
      framed s words (set s.states i now) s.base s.history is lawful (alike caller (ap machine_stage (sym machine))) (same_sortings (ap machine_sorting (sym machine))) same (one_relies (inr machine))

-- Words that become others beside nodes and their permutations, such as one that becomes durable.
pub words_permuted : (s : Index) (words : List ℕ) → HasPermutations s → Lawful (world (record s { words = words })) → IsSameRow s.layout s.words words → HasPermutations (record s { words = words })
words_permuted s words is lawful same =
    framed s words s.states s.base s.history is lawful (record { forth = λ i p at. (p, at, refl, refl); back = λ i p at. (p, at, refl, refl) }) refl same (λ i now at. inr (now, at, refl))

pub evict_permuted : (s : Index) (word : ℕ) → HasPermutations s → word < image_words s.layout → Lawful (world (record s { words = evicted s.layout s.words word })) → HasPermutations (record s { words = evicted s.layout s.words word })
evict_permuted s word is within lawful = words_permuted s (evicted s.layout s.words word) is lawful (record {
  nodes = λ n here. evictions_leave (world s) word n within;
  list = ap (λ (f : Facts). f.list) (evict_facts (world s) word);
})

-- What a call in flight relies on at its step: what it read of a permutation serves, if its node's version word is the
-- one that it saw.
pub relies_so_far : (s : Index) (i : ℕ) (state : PartyState) (machine : Running) → get_elem? s.states i ≡ some state → state.machine ≡ Some machine → HasPermutations s → Relies s.layout (facts (world s)) s.words machine
relies_so_far s i state machine there flies is =
    let relies : IsRelying s.layout s.generation (facts (world s)) s.words (Some machine) = subst (IsRelying s.layout s.generation (facts (world s)) s.words) flies (is.1 i state there) in
    record {
      permutation = λ r reads same. reading_serves (permuted s) r.node r.version r.seen is.0 (subst (λ (o : Option PermutationRead). IfSome o (IsReadSo s.layout s.generation (facts (world s)) s.words)) reads relies.read) same;
      end = relies.end;
    }

-- A step of a party's call.
module _ (s : Index) (i : ℕ) (state : PartyState) (machine : Running) (there : get_elem? s.states i ≡ some state) (flies : state.machine ≡ Some machine) where
  abbrev l : Layout
  l = s.layout

  abbrev g : ℕ
  g = s.generation

  abbrev w : World
  w = world s

  abbrev z : Permuted
  z = permuted s

  abbrev p : Party
  p = party_of state

  abbrev a : Action
  a = running_asks machine

  abbrev x : ℕ
  x = told s machine

  abbrev turn : Turn Running (Once Placed)
  turn = running_turned machine x

  abbrev now : PartyState
  now = state_after state turn

  abbrev end : Index
  end = stepped_index s i state machine 0

  abbrev words' : List ℕ
  words' = acted l s.words a

  abbrev next_history : List Write
  next_history = s.history ++ written state.caller state.index (counted (stage_of machine))

  stage : machine_stage state.machine ≡ stage_of machine
  stage = ap machine_stage flies

  party_there : get_elem? z.world.parties i ≡ some p
  party_there = map_there party_of s.states i state there

  sorting_there : get_elem? z.sortings i ≡ some (sorting_of machine)
  sorting_there = map_there sorting_at s.states i state there ∙ ap (λ (m : Option Running). some (machine_sorting m)) flies

  after_caller : (t : Turn Running (Once Placed)) → (party_of (state_after state t)).caller ≡ state.caller
  after_caller (Go next) = refl
  after_caller (Done answer) = refl

  after_stage : (t : Turn Running (Once Placed)) → (party_of (state_after state t)).stage ≡ stage_after t
  after_stage (Go next) = refl
  after_stage (Done answer) = refl

  after_sorting : (t : Turn Running (Once Placed)) → sorting_at (state_after state t) ≡ sorting_after t
  after_sorting (Go next) = refl
  after_sorting (Done answer) = refl

  after_reading : (t : Turn Running (Once Placed)) → machine_reading (state_after state t).machine ≡ reading_after t
  after_reading (Go next) = refl
  after_reading (Done answer) = refl

  after_end : (t : Turn Running (Once Placed)) → machine_end (state_after state t).machine ≡ end_after t
  after_end (Go next) = refl
  after_end (Done answer) = refl

  -- from whatever world with such words and such parties, to that of the index behind the step
  settled : (parties : List Party) (history : List Write) → IsPermuted (record { world = record w { words = words'; parties = parties; history = history }; sortings = slice_set z.sortings i (sorting_after turn) })
      → AreAlike parties (map party_of (set s.states i now)) → Lawful (world end) → IsPermuted (permuted end)
  settled parties history is alike lawful =
      subst (λ (q : List Sorting). IsPermuted (record { world = world end; sortings = q })) (ap (set z.sortings i) (sym (after_sorting turn)) ∙ sym (map_set sorting_at s.states i now))
      (frames_permute (record { world = record w { words = words'; parties = parties; history = history }; sortings = slice_set z.sortings i (sorting_after turn) }) words' (map party_of (set s.states i now)) (map_of s.base) next_history is lawful alike
      (same_row l words').nodes)

  -- what is read, whoever does
  abbrev KeepsRead : Type 0
  KeepsRead = (n v : ℕ) (seen : List (ℕ × ℕ)) → HasRead l g (facts w) s.words n v seen → HasRead l g (facts (world end)) words' n v seen

  kept_by : KeepsRead → (o : Option PermutationRead) → IfSome o (IsReadSo l g (facts w) s.words) → IfSome o (IsReadSo l g (facts (world end)) words')
  kept_by keeps None read = tt
  kept_by keeps (Some r) read = keeps r.node r.version r.seen read

  abbrev ReadsNow : Option PermutationRead → Type 0
  ReadsNow o = IfSome o (IsReadSo l g (facts (world end)) words')

  -- by this party
  own_read : Rereads l machine x → Sure l g (facts w) state.caller state.index state.since (stage_of machine) → IfSome (reading_of machine) (IsReadSo l g (facts w) s.words) → KeepsRead → ReadsNow (reading_after turn)
  own_read (has_none ends) sure read keeps = subst ReadsNow (sym ends) tt
  own_read (stays same) sure read keeps = subst ReadsNow (sym same) (kept_by keeps (reading_of machine) read)
  own_read (begins {n = n} {v = v} {k = k} {h = h} reads asks is next) sure read keeps =
      subst ReadsNow (sym next)
      (keeps n v [] (reading_begins l g (facts w) s.words state.caller state.index state.since n v k h (subst (Sure l g (facts w) state.caller state.index state.since) reads sure) (ap (got l s.words) (sym asks) ∙ is)))
  own_read (goes_on {n = n} {v = v} {k = k} {seen = seen} {after = later} had low asks tells next) sure read keeps =
      subst ReadsNow (sym next)
      (keeps n v later (reading_goes_on l g (facts w) s.words n v k x seen later (subst (λ (o : Option PermutationRead). IfSome o (IsReadSo l g (facts w) s.words)) had read) low (ap (got l s.words) asks) tells))

  -- where the range ends of a node that another party holds
  other_end : (j : ℕ) (other : PartyState) → j ≢ i → get_elem? s.states j ≡ some other → AnyStep l g (stage_of machine) a x (stage_after turn) (reply_of turn) → Lawful w
      → (o : Option Running) → other.machine ≡ o → HasEnd l (facts w) (machine_end o) → HasEnd l (facts (world end)) (machine_end o)
  other_end j other apart at step lawful None flown had = tt
  other_end j other apart at step lawful (Some m) flown had = by (end_of m) (ends_are_held m) had
    where
      by : (e : Option HeldEnd) → IfSome e (λ e. (lock : ℕ) × (h : Held) × (stage_of m ≡ Holds e.node lock h)) → HasEnd l (facts w) e → HasEnd l (facts (world end)) e
      by None held had = tt
      by (Some e) held had =
          let range = held_ranges_stay w i j p (party_of other) e.node held.0 held.1 a x (stage_after turn) (reply_of turn) lawful (λ same. apart (sym same)) party_there (map_there party_of s.states j other at)
          (ap machine_stage flown ∙ held.2) (subst (λ (u : Stage). AnyStep l g u a x (stage_after turn) (reply_of turn)) (sym stage) step) refl in
          subst (λ (r : List ℕ → Bool). EndsAt r e.low e.high) (sym range) had

  all_relying : AreRelying l g (facts w) s.words s.states → AnyStep l g (stage_of machine) a x (stage_after turn) (reply_of turn) → Lawful w → ReadsNow (reading_after turn) → HasEnd l (facts (world end)) (end_after turn)
      → KeepsRead → AreRelying l g (facts (world end)) words' (set s.states i now)
  all_relying relying step lawful own_reads own_ends keeps j other at = ⊎_elim
      (λ (mine : (j ≡ i) × (now ≡ other)).
      subst (λ (d : PartyState). IsRelying l g (facts (world end)) words' d.machine) mine.1
      (record { read = subst ReadsNow (sym (after_reading turn)) own_reads; end = subst (HasEnd l (facts (world end))) (sym (after_end turn)) own_ends }))
      (λ (apart : (j ≢ i) × (get_elem? s.states j ≡ some other)). record {
        read = kept_by keeps (machine_reading other.machine) (relying j other apart.1).read;
        end = other_end j other apart.0 apart.1 step lawful other.machine refl (relying j other apart.1).end;
      })
      (at_set s.states i j now other at)

  own_before : AreRelying l g (facts w) s.words s.states → IsRelying l g (facts w) s.words (Some machine)
  own_before relying = subst (IsRelying l g (facts w) s.words) flies (relying i state there)

  -- what all rely on, once it is known how the nodes' permutations go
  relying_then : AreRelying l g (facts w) s.words s.states → Rereads l machine x → AnyStep l g (stage_of machine) a x (stage_after turn) (reply_of turn) → Sound l g machine → Lawful w → KeepsRead
      → AreRelying l g (facts (world end)) words' (set s.states i now)
  relying_then relying rereads step sound lawful keeps =
      let known : Sure l g (facts w) state.caller state.index state.since (stage_of machine) = subst (Sure l g (facts w) state.caller state.index state.since) stage (lawful.sure i p party_there) in
      let before = own_before relying in
      all_relying relying step lawful (own_read rereads known before.read keeps) (ends_stay w i p machine x lawful party_there stage sound refl before.end) keeps

  pub step_permuted : HasPermutations s → Sound l g machine → AnyStep l g (stage_of machine) a x (stage_after turn) (reply_of turn) → Permutes l g machine x → Rereads l machine x → length s.history < 2 ^ 63
      → Lawful (world end) → HasPermutations end
  step_permuted is sound any (leaves step spares keeps) rereads room lawful =
      let both = subst (λ (u : Stage). (k : AnyStep l g u a x (stage_after turn) (reply_of turn)) × Spares k) (sym stage) (step, spares) in
      let kept = steps_permute z i p a x (stage_after turn) (reply_of turn) (sorting_of machine) (sorting_after turn) is.0 party_there sorting_there both.0 both.1 refl room keeps in
      let moved = moved_on p (stage_after turn) in
      let alike_then = alike_here (set z.world.parties i moved) i moved (party_of now) (set_here z.world.parties i moved p party_there) (after_caller turn) (after_stage turn) in
      let parties : set (set z.world.parties i moved) i (party_of now) ≡ map party_of (set s.states i now) = set_twice z.world.parties i moved (party_of now) ∙ sym (map_set party_of s.states i now) in (
        settled (set z.world.parties i moved) (stepped w i p a (stage_after turn)).history kept (subst (AreAlike (set z.world.parties i moved)) parties alike_then) lawful,
        relying_then is.1 rereads any sound is.0.lawful (λ n v seen read.
            frames_keep_reading l g (facts (stepped w i p a (stage_after turn))) (facts (world end)) words' words' n v seen refl refl refl
            (reading_is_kept z i p a x (stage_after turn) (reply_of turn) n v seen is.0 party_there both.0 both.1 refl read)),
      )
  step_permuted is sound any (sorts step uncounted same answers) rereads room lawful =
      let sorts_so = subst (λ (u : Stage). Sorts l u (sorting_of machine) a (sorting_after turn)) (sym stage) step in
      let law = sorts_permute z i p a (sorting_of machine) (sorting_after turn) is.0 party_there sorting_there sorts_so in
      let alike_then = alike_here z.world.parties i p (party_of now) party_there (after_caller turn) (after_stage turn ∙ same ∙ sym stage) in
      let parties : set z.world.parties i (party_of now) ≡ map party_of (set s.states i now) = sym (map_set party_of s.states i now) in (
        settled z.world.parties s.history law.kept (subst (AreAlike z.world.parties) parties alike_then) lawful,
        relying_then is.1 rereads any sound is.0.lawful (λ n v seen read.
            frames_keep_reading l g (facts (record w { words = words' })) (facts (world end)) words' words' n v seen refl refl refl
            (sorts_keep_reading z i p a (sorting_of machine) (sorting_after turn) n v seen is.0 party_there sorts_so read)),
      )
