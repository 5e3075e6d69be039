-- What parts of scans list is the map's.
use Rattle.std.proofs.Common.{◌≡◌, ℕ, ◌<◌, ◌≤◌, ◌++◌, refl, ap, ◌∙◌, subst, arith}
use Rattle.std.specs.Prelude.{Option, Some, None, IfSome}
use Rattle.std.proofs.lemmas.List.{append-nil}
use mathlib.Core.Option.{some}
use lib.ListN.{get_elem?}
use Rattle.pm_words.specs.declared.layout.Layout.{Layout}
use Rattle.cat_history.specs.Maps.{map_of}
use Rattle.cat_history.specs.Writes.{after}
use Rattle.cat_history.specs.declared.op.Change.{Change}
use Rattle.call_stages.specs.Stages.{counted}
use Rattle.node_ops.specs.declared.part.Part.{Part}
use Rattle.node_ops.specs.declared.part.PartWords.{PartWords}
use Rattle.node_ops.specs.declared.running.Running.{Running}
use Rattle.node_ops.specs.declared.running.Running.TheVariants.{Getting, Putting, Deleting, Parting}
use Rattle.node_ops.specs.Calls.{name_in}
use Rattle.node_ops.specs.CallStages.{stage_of, part_stage}
use Rattle.node_ops.specs.PartSteps.{part_call, part_count, part_listed}
use Rattle.node_ops.specs.Parts.{Confirms}
use Rattle.node_ops.specs.Permuting.{reading_of}
use Rattle.node_ops.specs.RunningSteps.{Sound}
use Rattle.index_law.specs.Facts.{Facts}
use Rattle.index_law.specs.Lawful.{HasNames, Lawful, Sure}
use Rattle.index_law.specs.Worlds.{facts, written}
use Rattle.index_core.specs.declared.party.PartyState.{PartyState}
use Rattle.index_core.specs.PartyStates.{machine_stage, party_of}
use Rattle.index_core.specs.Indexes.{Index, IsIndex, world, told, stepped_index}
use Rattle.index_core.specs.Listings.{IsPartAt, ListsAt}
use Rattle.index_core.proofs.Lists.{map_there}
use Rattle.index_core.proofs.Owing.{many, part_counts, written-length}
use Rattle.index_core.proofs.Permuting.{relies_so_far}
use Rattle.index_core.proofs.PartFacts.{sound_call, listed_at_end, names_longer}

-- a party's part, before its turn
module _ (s : Index) (i : ℕ) (state : PartyState) (p : Part) (is : IsIndex s) (there : get_elem? s.states i ≡ some state) (flies : state.machine ≡ Some (Parting p)) where
  abbrev l : Layout
  l = s.layout

  abbrev f : Facts
  f = facts (world s)

  abbrev f' : Facts
  f' = facts (world (stepped_index s i state (Parting p) 0))

  sound : Sound l s.generation (Parting p)
  sound = subst (λ (o : Option Running). IfSome o (Sound l s.generation)) flies (is.states i state there).machine

  here : (part_call p).node < l.nodes
  here = subst (λ (m : Layout). (part_call p).node < m.nodes) sound.layout (sound_call p sound.here).node

  sure : Sure l s.generation f state.caller state.index state.since (part_stage p)
  sure = subst (Sure l s.generation f state.caller state.index state.since) (ap machine_stage flies) (is.lawful.sure i (party_of state) (map_there party_of s.states i state there))

  lists_here : IfSome (part_listed p) (λ words. Confirms (Parting p) (told s (Parting p)) words → IsPartAt l f' (reading_of (Parting p)) (name_in (part_call p)) (part_count p) words)
  lists_here = at (part_listed p) refl
    where
      at : (o : Option PartWords) → part_listed p ≡ o → IfSome o (λ words. Confirms (Parting p) (told s (Parting p)) words → IsPartAt l f' (reading_of (Parting p)) (name_in (part_call p)) (part_count p) words)
      at None lists = tt
      at (Some words) lists = λ confirms.
          let longer : s.history ++ written state.caller state.index (counted (part_stage p)) ≡ s.history = ap (λ (o : Option Change). s.history ++ written state.caller state.index o) (part_counts p) ∙ append-nil s.history in
          listed_at_end l s.generation s.words (map_of s.base) s.history _ state.caller state.index state.since p words is.lawful.row sound is.lawful.list is.lawful.named sure (relies_so_far s i state (Parting p) there flies (is.permuted, is.relying)) longer lists (told s (Parting p)) refl confirms

-- What a part lists that is done with this step.
pub lists_at : (s : Index) (i : ℕ) (state : PartyState) (m : Running) → IsIndex s → get_elem? s.states i ≡ some state → state.machine ≡ Some m → ListsAt s.layout (facts (world (stepped_index s i state m 0))) m (told s m)
lists_at s i state (Getting get) is there flies = tt
lists_at s i state (Putting put) is there flies = tt
lists_at s i state (Deleting del) is there flies = tt
lists_at s i state (Parting p) is there flies = lists_here s i state p is there flies

-- A step leaves maps of names at all places.
pub step_named : (s : Index) (i : ℕ) (state : PartyState) (m : Running) → IsIndex s → Lawful (world (stepped_index s i state m 0)) → (place : ℕ)
    → HasNames (after (map_of s.base) (s.history ++ written state.caller state.index (counted (stage_of m))) place)
step_named s i state m is lawful place =
    let long = written-length state.caller state.index (counted (stage_of m)) in
    let one = many_one (counted (stage_of m)) in
    names_longer (map_of s.base) s.history (written state.caller state.index (counted (stage_of m))) (omega arith) is.named lawful.named place
  where
    many_one : (o : Option Change) → many o ≤ 1
    many_one None = omega arith
    many_one (Some change) = omega arith
