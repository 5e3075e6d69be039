-- The floor and the walk of a look-up, as states of it.
use Rattle.std.proofs.Common.{ℕ, refl, ap, sym, subst}
use Rattle.pm_words.specs.declared.layout.Layout.{Layout}
use Rattle.data_list.specs.declared.walk.Walk.{Walk}
use Rattle.data_list.specs.Walks.{walk_asks, walk_turned, walk_left, walk_takes}
use Rattle.data_list.proofs.Loading.{walk_adds_nothing}
use Rattle.tree_floor.specs.declared.floor.Floor.{Floor}
use Rattle.tree_floor.specs.Floors.{floor_asks, floor_turned, floor_left, floor_takes}
use Rattle.call_stages.specs.Kinds.{Told}
use Rattle.machine_runs.specs.Runs.{AddsNothing, Holds}
use Rattle.node_ops.specs.declared.call.Call.{Call}
use Rattle.node_ops.specs.declared.lookup.Lookup.{Lookup}
use Rattle.node_ops.specs.declared.lookup.LookupAt.{LookupAt}
use Rattle.node_ops.specs.declared.lookup.LookupAt.TheVariants as at
use Rattle.node_ops.specs.LookupSteps.{IsWalking, floored, walked_on}
use Rattle.node_ops.specs.LookupSteps.{lookup_asks, lookup_at_asks, lookup_turned, lookup_left, lookup_takes}
use Rattle.node_ops.proofs.Measures.{floor_goes_below, walk_fewer_by}

-- a look-up adds to no word
lookup_at_adds_nothing : (call : Call) (a : LookupAt) → AddsNothing (lookup_at_asks call a)
lookup_at_adds_nothing call (at.Floor floor) = tt
lookup_at_adds_nothing call (at.Walk walk) = walk_adds_nothing walk
lookup_at_adds_nothing call (at.Read seen) = tt
lookup_at_adds_nothing call (at.Lock seen locked) = tt
lookup_at_adds_nothing call (at.Clock locked) = tt
lookup_at_adds_nothing call (at.Spent hold) = tt
lookup_at_adds_nothing call (at.Bitmap hold) = tt
lookup_at_adds_nothing call (at.Prints hold bitmap prints k) = tt
lookup_at_adds_nothing call (at.Name hold directory left slot k) = tt
lookup_at_adds_nothing call (at.Value hold directory slot) = tt

pub lookup_adds_nothing : (lookup : Lookup) → AddsNothing (lookup_asks lookup)
lookup_adds_nothing lookup = lookup_at_adds_nothing lookup.call lookup.at

-- what a look-up is told its walk is told
pub walk_told : (call : Call) (walk : Walk) (number : ℕ) → IsWalking call walk
    → Told call.view.layout call.view.generation (walk_asks walk) number
    → Told walk.layout walk.generation (walk_asks walk) number
walk_told call walk number is told =
    subst (λ (q : Layout × ℕ). Told q.0 q.1 (walk_asks walk) number)
    (λ k. (sym is.layout k, sym is.generation k)) told

-- its floor and its walk are states of it
pub holds_floor : (call : Call) → Holds floor_asks floor_turned floor_left floor_takes
    lookup_asks lookup_turned lookup_left lookup_takes (λ (f : Floor). record { call = call; at = at.Floor f })
holds_floor call = record {
  asked = λ floor. refl;
  on = λ floor next number goes. ap (floored call) goes;
  taken = λ floor number takes. (takes.0.here.sound, takes.1.fits);
  fewer = λ floor number takes below.
      floor_goes_below call (at.Floor floor) floor number refl takes.0.here takes.1.fits;
}

pub holds_walk : (call : Call) → Holds walk_asks walk_turned walk_left walk_takes
    lookup_asks lookup_turned lookup_left lookup_takes (λ (w : Walk). record { call = call; at = at.Walk w })
holds_walk call = record {
  asked = λ walk. refl;
  on = λ walk next number goes. ap (walked_on call) goes;
  taken = λ walk number takes. (takes.0.here.sound, walk_told call walk number takes.0.here takes.1);
  fewer = λ walk number takes below. walk_fewer_by call walk (walk_turned walk number) below;
}
