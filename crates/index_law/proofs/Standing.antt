-- What stands of a node while its version word does.
use Rattle.std.proofs.Common.{◌≡◌, ℕ, ◌<◌, ◌≤◌, ◌⊎◌, inl, inr, ⊎_elim, leb, Bool, true, false, List, ◌++◌, length, refl, sym, ap, ◌∙◌, subst, arith}
use Rattle.std.specs.Prelude.{Option, None, IfSome}
use Rattle.std.proofs.lemmas.Bool.{leb-true, leb-false}
use Rattle.std.proofs.lemmas.List.{length-append}
use Rattle.pm_words.specs.declared.layout.Layout.{Layout}
use Rattle.version_lock.specs.Versions.{IsFree}
use Rattle.cat_history.specs.Maps.{Map, at}
use Rattle.cat_history.specs.Writes.{after, after_all}
use Rattle.cat_history.specs.declared.op.Write.{Write}
use Rattle.call_stages.specs.AnySteps.{on_nodes, beside}
use Rattle.index_law.specs.Facts.{Facts, range_of}
use Rattle.index_law.specs.Worlds.{facts, stepped}
use Rattle.index_law.specs.Lawful.{IsTime}
use Rattle.index_law.specs.Standing.{IsAsBefore, FreeNodesStand, IsUnchanged, StandsSince, StandingIsKept, ReadsStand}
use Rattle.index_law.proofs.Maps.{after-whole, after-longer}
use Rattle.index_law.proofs.Moves.{gives, facts_step}
use Rattle.index_law.proofs.Own.{mine}
use Rattle.index_law.proofs.Bystanders.{IsLater}
use Rattle.index_law.proofs.Locks.{calm, goes_on}
use Rattle.index_law.proofs.AnySteps.{beside_keeps}

at_most : (a b : ℕ) → (a ≤ b) ⊎ (b < a)
at_most a b = elim (leb a b) as (λ c. leb a b ≡ c → (a ≤ b) ⊎ (b < a)) [
  | true ↦ λ is. inl (leb-true a b is)
  | false ↦ λ is. inr (leb-false a b is)
] refl

-- a longer history, on which the map is as it was
module _ (base : Map) (history more : List Write) (few : length more ≤ 1) (bounds : List ℕ → Bool)
    (still : (name : List ℕ) → bounds name ≡ true → at (after_all base (history ++ more)) name ≡ at (after_all base history) name) where
  grown : (place : ℕ) → IsUnchanged bounds base history place → IsUnchanged bounds base (history ++ more) place
  grown place is = record {
    within = let within = is.within in let longer = length-append history more in omega arith;
    same = λ k late here name inside. at_place k late here name inside ∙ ap (λ (m : Map). at m name) (sym (after-longer base history more place is.within));
  }
    where
      at_place : (k : ℕ) → place ≤ k → k ≤ length (history ++ more) → (name : List ℕ) → bounds name ≡ true → at (after base (history ++ more) k) name ≡ at (after base history place) name
      at_place k late here name inside = ⊎_elim
          (λ (old : k ≤ length history). ap (λ (m : Map). at m name) (after-longer base history more k old) ∙ is.same k late old name inside)
          (λ (new : length history < k).
          let longer = length-append history more in
          let whole : k ≡ length (history ++ more) = omega arith in
          ap (λ (m : Map). at m name) (after-whole base (history ++ more) k whole) ∙ still name inside
          ∙ ap (λ (m : Map). at m name) (sym (after-whole base history (length history) refl)) ∙ is.same (length history) is.within (omega arith) name inside)
          (at_most k (length history))

-- it is kept where the node stands as it was if its version word does
pub since_kept : (l : Layout) (g : ℕ) (f f' : Facts) → IsLater f f' → (bounds : List ℕ → Bool) (n v place : ℕ) → f.version n ≤ f'.version n
    → (IsFree (f.version n) g → f'.version n ≡ f.version n → IsAsBefore l f f' n) → StandsSince l g f bounds n v place → StandsSince l g f' bounds n v place
since_kept l g f f' later bounds n v place rises stays is = record {
  here = is.here;
  free = is.free;
  seen = let seen = is.seen in omega arith;
  inside = λ now name within. let was = before now in ap (λ (r : List ℕ → Bool). r name) was.1.range ∙ is.inside was.0 name within;
  unchanged = λ now.
      let was = before now in
      let grow : IsUnchanged bounds f.base (f.history ++ later.more) place = grown f.base f.history later.more later.few bounds
      (λ name within.
      ap (λ (m : Map). at m name) (sym (λ i. after_all (later.base i) (later.history i)))
      ∙ was.1.map name (is.inside was.0 name within)) place (is.unchanged was.0) in
      subst (λ (b : Map). IsUnchanged bounds b f'.history place) (sym later.base)
      (subst (λ (h : List Write). IsUnchanged bounds f.base h place) (sym later.history) grow);
}
  where
    before : f'.version n ≡ v → (f.version n ≡ v) × IsAsBefore l f f' n
    before now =
        let seen = is.seen in
        let same : f.version n ≡ v = omega arith in
        (same, stays (subst (λ (u : ℕ). IsFree u g) (sym same) is.free) (now ∙ sym same))

pub free_nodes_stand : FreeNodesStand
free_nodes_stand w i p a x t r lawful there (on_nodes k) told n here =
    let l = w.layout in
    let f = facts w in
    let known = lawful.sure i p there in
    let given = gives w.words w.base w.history p.caller p.index p.since k lawful.clock told known in
    let same = facts_step w.words w.base w.history p.caller p.index p.since k lawful.row lawful.list told known in
    let own = mine f p.caller p.index p.since (lawful.begun i p there) lawful.versions lawful.list lawful.live lawful.settled k given known in
    let all = calm f p.caller p.index p.since k given lawful.list known own in
    record {
      rises = subst (λ (φ : Facts). f.version n ≤ φ.version n) (sym same) (all.rises n here);
      stays = subst (λ (φ : Facts). IsFree (f.version n) w.generation → φ.version n ≡ f.version n → IsAsBefore l f φ n) (sym same)
          (λ free is. let steady = all.steady n here free is in record { listed = steady.listed; words = steady.now; range = steady.range; map = steady.map });
    }
free_nodes_stand w i p a x t r lawful there (beside none is) told n here =
    let l = w.layout in
    let f = facts w in
    let same = (beside_keeps w i p a lawful there none is).facts in
    record {
      rises = subst (λ (φ : Facts). f.version n ≤ φ.version n) (sym same) (omega arith);
      stays = subst (λ (φ : Facts). IsFree (f.version n) w.generation → φ.version n ≡ f.version n → IsAsBefore l f φ n) (sym same)
          (λ free is. record { listed = λ was. was; words = refl; range = refl; map = λ name inside. refl });
    }

pub standing_is_kept : StandingIsKept
standing_is_kept w i p a x t r bounds n v place lawful there (on_nodes k) told is =
    let f = facts w in
    let same = facts_step w.words w.base w.history p.caller p.index p.since k lawful.row lawful.list told (lawful.sure i p there) in
    let law = free_nodes_stand w i p a x t r lawful there (on_nodes k) told n is.here in
    since_kept w.layout w.generation f (facts (stepped w i p a t)) (subst (IsLater f) (sym same) (goes_on f p.caller p.index p.since k)) bounds n v place law.rises law.stays is
standing_is_kept w i p a x t r bounds n v place lawful there (beside none at) told is =
    subst (λ (φ : Facts). StandsSince w.layout w.generation φ bounds n v place) (sym (beside_keeps w i p a lawful there none at).facts) is

pub reads_stand : ReadsStand
reads_stand l g f caller index since n v clock k h bounds sure time still inside =
    let read = sure.read still in
    let told = subst (λ (c : Option ℕ). IfSome c (IsTime (range_of l f n) f.base f.history since None)) time read.time in
    record {
      here = sure.here;
      free = sure.free;
      seen = sure.seen;
      inside = λ _. inside;
      unchanged = λ _. record {
        within = told.within;
        same = λ place late here name within. told.same place late here name (inside name within) ∙ sym (told.same clock (omega arith) told.within name (inside name within));
      };
    }
