-- The map that a crash leaves.
use Rattle.std.proofs.Common.{◌≡◌, ℕ, inl, inr, ◌⊎◌, List, refl, sym, ◌∙◌, subst}
use Rattle.std.specs.Prelude.{Option, Some, None, IfSome, Contains}
use Rattle.std.proofs.lemmas.Bool.{eq-eqb}
use Rattle.cat_key.specs.Names.{IsName}
use Rattle.cat_history.specs.Maps.{Map, at}
use Rattle.cat_history.specs.Writes.{changed, name_of}
use Rattle.cat_history.specs.CrashEnds.{IsFound, IsFoundCut}
use Rattle.cat_history.specs.declared.op.Change.{Change}
use Rattle.cat_history.specs.declared.op.Change.TheVariants.{Put, Del}
use Rattle.cat_history.proofs.ChangeLemmas.{at-changed_other, changed_found}
use Rattle.cat_history.proofs.CrashEndLemmas.{old_or_cut_is_crash_end}
use Rattle.data_node.specs.Lists.{target_from, key_of, IsIn}
use Rattle.data_node.proofs.SpotLemmas.{same_name}
use Rattle.image_rules.proofs.MapLemmas.{found_once}
use Rattle.call_stages.specs.Stages.{pended}
use Rattle.index_law.specs.Facts.{map_now, durable_spot}
use Rattle.index_law.specs.Worlds.{World, facts}
use Rattle.index_law.specs.Lawful.{Lawful}
use Rattle.index_law.specs.Laws.{HasPending, durable_list, IsLeft, CrashLeavesEnd}
use Rattle.data_node.proofs.ListLemmas.{target_in}
use Rattle.index_law.proofs.Durable.{durable_law}

is_found_at : (end m : Map) (c : Change) → at end (name_of c) ≡ at (changed m c) (name_of c) → IsFound end c
is_found_at end m (Put name value) same = same ∙ changed_found m (Put name value)
is_found_at end m (Del name) same = same ∙ changed_found m (Del name)

module _ (w : World) (end : Map) (cuts : List Change) (lawful : Lawful w) (left : IsLeft w end)
    (among : (change : Change) → HasPending w.parties change → Contains cuts change) where
  by_pending : (name : List ℕ) (pending : Option Change) → IfSome pending (HasPending w.parties) → at end name ≡ at (pended pending (map_now (facts w))) name
      → (at end name ≡ at (map_now (facts w)) name) ⊎ IsFoundCut cuts end name
  by_pending name None has same = inl same
  by_pending name (Some c) has same = elim (same_name name (name_of c)) [
    | inl one ↦ inr (record {
      change = c;
      cut = among c has;
      about = sym one.0;
      found = is_found_at end (map_now (facts w)) c (subst (λ n. at end n ≡ at (changed (map_now (facts w)) c) n) one.0 same);
    })
    | inr other ↦ inl (same ∙ at-changed_other (map_now (facts w)) c name other.0)
  ]

  of_name : (name : List ℕ) → IsName name → (at end name ≡ at (map_now (facts w)) name) ⊎ IsFoundCut cuts end name
  of_name name is =
      let n = target_from 0 (durable_list w) (key_of name) in
      let listed : IsIn (durable_list w) n = target_in 0 (durable_list w) (key_of name) in
      let means = (durable_law w lawful).means n listed in
      let kept = left.means n listed in
      by_pending name means.pending means.cut
      (found_once w.layout.slots (durable_spot w.layout w.words n) name kept.tidy (at end name) (at (pended means.pending (map_now (facts w))) name)
      (kept.agrees name is (eq-eqb n n refl)) (means.means.agrees name is (eq-eqb n n refl)))

pub crash_law : CrashLeavesEnd
crash_law w end cuts lawful left among = old_or_cut_is_crash_end (map_now (facts w)) cuts end (λ name.
    elim (at end name) as (λ o. at end name ≡ o → (at end name ≡ at (map_now (facts w)) name) ⊎ IsFoundCut cuts end name) [
      | Some value ↦ λ has. of_name w end cuts lawful left among name (left.names name value has)
      | None ↦ λ lacks.
          elim (at (map_now (facts w)) name) as (λ o. at (map_now (facts w)) name ≡ o → (at end name ≡ at (map_now (facts w)) name) ⊎ IsFoundCut cuts end name) [
            | Some value ↦ λ has. of_name w end cuts lawful left among name (lawful.named name value has)
            | None ↦ λ lacks'. inl (lacks ∙ sym lacks')
          ] refl
    ] refl)
