-- What an eviction keeps, and what a crash leaves of a lawful index.
use Rattle.std.proofs.Common.{◌≡◌, ⊎_elim, ℕ, zero, suc, ◌<◌, ◌≤◌, List, [], ◌∷◌, refl, sym, ap, ◌∙◌, subst, arith}
use Rattle.std.specs.Prelude.{Option, Some, None, IfSome, IsSomeAnd, slice_get, Contains}
use Rattle.std.proofs.lemmas.List.Elements.{Contains-append_left, Contains-append_right}
use mathlib.Core.Option.{some, some-injective, some-ne-none}
use lib.ListN.{get_elem?}
use Rattle.pm_words.specs.Images.{Row}
use Rattle.pm_words.specs.Locations.{image_words}
use Rattle.pm_words.specs.Rows.{evicted, durable_row}
use Rattle.cat_history.specs.declared.op.Change.{Change}
use Rattle.call_stages.specs.Stages.{Held, Stage, Idle, Saw, Wears, Reads, Holds, Eyes, Splits, Leaves, Meets, Joins, pending_in, placed_in}
use Rattle.node_ops.specs.declared.running.Running.{Running}
use Rattle.node_ops.specs.Asked.{IsOf, IsAbout, op_in, name_asked}
use Rattle.node_ops.specs.RunningSteps.{IsRunning, Sound}
use Rattle.node_ops.specs.CallStages.{stage_of}
use Rattle.node_ops.proofs.OpLaw.{pends_own_change, holds_own_name}
use Rattle.index_law.specs.Worlds.{Party, facts}
use Rattle.index_law.specs.Footed.{IsFooted}
use Rattle.index_law.specs.Lawful.{Lawful, Sure, IsPlaced}
use Rattle.index_law.specs.Laws.{HasPending}
use Rattle.image_rules.specs.Sound.{image_map}
use Rattle.data_node.specs.Lists.{members_from}
use Rattle.data_node.specs.Weights.{list_weight}
use Rattle.index_law.specs.Weights.{weight_sum}
use Rattle.index_law.proofs.Images.{image_law, in_image}
use Rattle.index_law.proofs.Evictions.{evict_law}
use Rattle.index_law.proofs.Weights.{crash_weighs}
use Rattle.index_image_law.specs.index_layer_law.specs.Layers.{IsLayered}
use Rattle.index_image_law.proofs.CrashLaw.{crash_leaves_sound_by_all}
use Rattle.index_core.specs.declared.party.PartyState.{PartyState}
use Rattle.index_core.specs.Crashes.{IsCrash, AreRunning, evicted_index, unplaced, cut_change, cut_changes}
use Rattle.index_core.specs.PartyStates.{machine_stage, party_of}
use Rattle.index_core.specs.Weights.{crash_weight}
use Rattle.index_core.specs.Indexes.{Index, IsIndex, IsOwnWrite, footed, layered, world}
use Rattle.index_law.proofs.Footed.{evict_footed}
use Rattle.index_core.proofs.Layering.{evict_layered}
use Rattle.index_core.proofs.Permuting.{HasPermutations, evict_permuted}
use Rattle.index_core.proofs.Lists.{map_there, map_from}

-- an index with other words is one where all that is told of words holds of these too
pub words_keep : (s : Index) (words : List ℕ) → IsIndex s → Lawful (world (record s { words = words })) → IsFooted (footed (record s { words = words })) → IsLayered (layered (record s { words = words })) → HasPermutations (record s { words = words }) → IsIndex (record s { words = words })
words_keep s words is lawful footing layering permuting = record {
  lawful = lawful;
  whole = footing.0;
  tended = footing.1;
  layered = layering;
  parties = is.parties;
  states = is.states;
  ordered = is.ordered;
  bounded = is.bounded;
  named = is.named;
  rechecks = is.rechecks;
  permuted = permuting.0;
  relying = permuting.1;
}

pub evict_keeps : (s : Index) (word : ℕ) → IsIndex s → word < image_words s.layout → IsIndex (evicted_index s word)
evict_keeps s word is within =
    let lawful = evict_law (world s) word is.lawful within in
    words_keep s (evicted s.layout s.words word) is lawful (evict_footed (footed s) word (is.whole, is.tended) within) (evict_layered s word is.layered within) (evict_permuted s word (is.permuted, is.relying) within lawful)

-- the index with this row
abbrev pub with_row : Index → Row → Index
with_row s row = record s { layout = row.layout; words = row.words }

pub evict_at : (s : Index) (word : ℕ) (row : Row) → row ≡ record { layout = s.layout; words = evicted s.layout s.words word } → with_row s row ≡ evicted_index s word
evict_at s word row is = λ k. with_row s (is k)

-- each call in flight is sound
pub are_running : (s : Index) → IsIndex s → AreRunning s.states
are_running s is i state there = at state.machine (is.states i state there).machine
  where
    at : (machine : Option Running) → IfSome machine (Sound s.layout s.generation) → IfSome machine IsRunning
    at None sound = tt
    at (Some machine) sound = sound.here

-- the change of a party whose call is in flight is among those that are cut off
cut_there : (states : List PartyState) (i : ℕ) (state : PartyState) (change : Change) → get_elem? states i ≡ some state → cut_change state.machine ≡ change ∷ [] → Contains (cut_changes states) change
cut_there [] i state change there is = absurd (some-ne-none state (sym there))
cut_there (first ∷ states) zero state change there is =
    let own : cut_change first.machine ≡ change ∷ [] = ap (λ (e : PartyState). cut_change e.machine) (some-injective first state there) ∙ is in
    Contains-append_left (cut_change first.machine) (cut_changes states) change (subst (λ (changes : List Change). Contains changes change) (sym own) (0, omega arith, refl))
cut_there (first ∷ states) (suc i) state change there is =
    Contains-append_right (cut_change first.machine) (cut_changes states) change (cut_there states i state change there is)

-- a change that a stage has pending is the unplaced one of its machine
pending_cut : (machine : Option Running) (change : Change) → IfSome machine (λ m. IsOf (op_in m) m) → pending_in (machine_stage machine) ≡ Some change → cut_change machine ≡ change ∷ []
pending_cut None change of told = absurd cc
pending_cut (Some machine) change of told =
    let own = pends_own_change (op_in machine) machine change of told in
    (λ k. unplaced (own.1 k) (own.0 k))

-- a call that has its place stands there, and got it after its start
pub placed_since : (s : Index) → IsIndex s → (i place : ℕ) (state : PartyState) (machine : Running) → get_elem? s.states i ≡ some state → state.machine ≡ Some machine
    → placed_in (stage_of machine) ≡ Some place → IsPlaced s.history state.caller state.index state.since (name_asked (op_in machine)) place
placed_since s is i place state machine there flies told =
    at (stage_of machine) (subst (Sure s.layout s.generation (facts (world s)) state.caller state.index state.since) (ap machine_stage flies) (is.lawful.sure i (party_of state) (map_there party_of s.states i state there)))
    (holds_own_name (op_in machine) machine (subst (λ (o : Option Running). IfSome o (λ m. IsOf (op_in m) m)) flies (is.states i state there).op)) told
  where
    own : (h : Held) → IfSome h.placed (IsPlaced s.history state.caller state.index state.since h.name) → h.name ≡ name_asked (op_in machine) → h.placed ≡ Some place
        → IsPlaced s.history state.caller state.index state.since (name_asked (op_in machine)) place
    own h placed about told =
        subst (λ (name : List ℕ). IsPlaced s.history state.caller state.index state.since name place) about
        (subst (λ (o : Option ℕ). IfSome o (IsPlaced s.history state.caller state.index state.since h.name)) told placed)

    at : (stage : Stage) → Sure s.layout s.generation (facts (world s)) state.caller state.index state.since stage → IsAbout (name_asked (op_in machine)) stage → placed_in stage ≡ Some place
        → IsPlaced s.history state.caller state.index state.since (name_asked (op_in machine)) place
    at Idle sure about told = absurd cc
    at (Saw n v w k) sure about told = absurd cc
    at (Wears n v) sure about told = absurd cc
    at (Reads n v sight found) sure about told = absurd cc
    at (Splits left fresh phase) sure about told = absurd cc
    at (Leaves left) sure about told = absurd cc
    at (Holds n w h) sure about told = own h sure.placed about told
    at (Eyes n w h m v u free) sure about told = own h sure.0.placed about told
    at (Meets n w h right) sure about told = own h sure.0.placed about told
    at (Joins h left right pace) sure about told = own h sure.call.placed about told

pub placed_later : (s : Index) → IsIndex s → (i place : ℕ) (state : PartyState) (machine : Running) → get_elem? s.states i ≡ some state → state.machine ≡ Some machine
    → placed_in (stage_of machine) ≡ Some place → state.since ≤ place
placed_later s is i place state machine there flies told = (placed_since s is i place state machine there flies told).later

-- each pending change is among those that are cut off
pending_there : (s : Index) → IsIndex s → (change : Change) → HasPending (world s).parties change → Contains (cut_changes s.states) change
pending_there s is change has =
    let from = map_from party_of s.states has.number has.party has.there in
    cut_there s.states has.number from.0 change from.1
    (pending_cut from.0.machine change (is.states has.number from.0 from.1).op (ap (λ (p : Party). pending_in p.stage) from.2 ∙ has.pending))

-- the image that a crash leaves weighs no more than the sum
pub crash_light : (s : Index) → IsIndex s → crash_weight s ≤ weight_sum (world s)
crash_light s is = in_image s.layout s.words (λ now. list_weight s.layout.slots now (members_from now s.layout.nodes 0) ≤ weight_sum (world s)) (crash_weighs (world s) is.lawful)

pub crash_is : (s : Index) (image : Row) (cuts : List PartyState) → IsIndex s → image ≡ record { layout = s.layout; words = durable_row s.layout s.words } → cuts ≡ s.states → IsCrash s image cuts
crash_is s image cuts is leaves cut_off =
    let law = image_law (world s) is.lawful is.whole.joint.fit in
    record {
      leaves = leaves;
      cut_off = cut_off;
      sound = crash_leaves_sound_by_all (layered s) is.layered;
      weighs = crash_light s is;
      end = image_map s.layout (durable_row s.layout s.words);
      keeps = law.keeps;
      ends = law.ends (cut_changes s.states) (pending_there s is);
      placed = λ i place state machine there flies told.
          let at = placed_since s is i place state machine there flies told in
          let later = at.later in
          ⊎_elim
          (λ (before : place < state.since). absurd (omega arith))
          (λ (own : IsOwnWrite state machine place (record { caller = state.caller; index = state.index; change = at.write.change })).
          subst (λ (o : Option Change). IsSomeAnd o (λ change. slice_get s.history place ≡ Some (record { caller = state.caller; index = state.index; change = change }))) (sym own.change) at.write.stands)
          (is.ordered i place state machine _ there flies at.write.stands refl);
    }
