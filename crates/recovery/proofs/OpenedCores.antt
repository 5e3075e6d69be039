-- Cores of fresh images, and of a core's own image.
use Rattle.std.proofs.Common.{◌≡◌, ℕ, suc, ◌*◌, ◌≤◌, ◌/◌, List, [], ◌∷◌, length, sym, ap, ◌∙◌, subst, arith}
use Rattle.std.specs.FinMap.{empty, len, len-empty}
use Rattle.std.specs.Prelude.{Result, Ok, Err, IfOk}
use Rattle.cat_key.specs.Names.{name_cmp}
use Rattle.cat_history.specs.Maps.{map_of}
use Rattle.cat_history.specs.Writes.{after_all}
use Rattle.pm_words.specs.Images.{Row, fresh_words}
use Rattle.pm_words.specs.Layouts.{IsLayout}
use Rattle.pm_words.specs.Locations.{Header, Node}
use Rattle.pm_words.specs.declared.layout.Layout.{Layout}
use Rattle.pm_words.specs.Offsets.{next_offset, generation_offset}
use Rattle.pm_words.proofs.Made.{fresh_at}
use Rattle.version_lock.specs.Versions.{IsGeneration}
use Rattle.data_node.proofs.ListLemmas.{chain_is}
use Rattle.image_rules.specs.Nodes.{image_list, image_spot}
use Rattle.image_rules.specs.Rules.{header_generation}
use Rattle.image_rules.proofs.FreshLemmas.{fresh_is_sound}
use Rattle.image_rules.proofs.MapLemmas.{has_one_map}
use Rattle.image_rules.proofs.WordLemmas.{image_spot-here}
use Rattle.image_layer_rules.specs.Sound.{IsSoundByAll}
use Rattle.shapes.specs.Weights.{weight}
use Rattle.shapes.proofs.Shapes.{len-keys}
use Rattle.shapes.proofs.Targets.{all-between}
use Rattle.index_law.specs.Anchors.{anchors_in, anchors_of, gone_nodes}
use Rattle.index_law.specs.Facts.{map_now}
use Rattle.index_law.specs.Worlds.{facts}
use Rattle.index_law.proofs.Holding.{idle_has_shape}
use Rattle.index_core.specs.Indexes.{Index, map_of_index, world}
use Rattle.index_core.specs.Weights.{weight_of}
use Rattle.index_core.proofs.Quiet.{quiet_parties}
use Rattle.index_core.specs.index_image_law.specs.Rest.{IsRestImage, cached_image}
use Rattle.recovery.specs.Opened.{IsOpenedFrom}
use Rattle.recovery.specs.Cores.{IsReopened, fresh_image}

-- what is said of a value, where there is one, by what is said of it already
pub if_ok : {A E : Type 0} (P Q : A → Type 0) (r : Result A E) → ((x : A) → P x → Q x) → IfOk r P → IfOk r Q
if_ok P Q (Ok x) then_q p = then_q x p
if_ok P Q (Err e) then_q p = p

-- ---- fresh images

fresh_generation : (l : Layout) → header_generation l (fresh_words l) ≡ 1
fresh_generation l = fresh_at l (Header generation_offset) (omega arith)

-- there is a next generation of one
pub fresh_is_early : (l : Layout) → IsGeneration (suc (header_generation l (fresh_words l)))
fresh_is_early l = subst (λ (n : ℕ). IsGeneration (suc n)) (sym (fresh_generation l)) (record { least = omega arith; fits = omega arith })

-- it has no names,
pub fresh_contents : (l : Layout) (s : Index) → IsLayout l → IsOpenedFrom (fresh_image l) s → map_of_index s ≡ empty
fresh_contents l s layout is =
    ap (after_all (map_of s.base)) is.history ∙ has_one_map l (fresh_words l) (map_of s.base) empty is.keeps (fresh_is_sound l layout).1

-- one member,
fresh_list : (l : Layout) → IsLayout l → image_list l (fresh_words l) ≡ []
fresh_list l is =
    let nodes = is.nodes in
    chain_is (image_spot l (fresh_words l)) l.nodes 0 []
    (image_spot-here l (fresh_words l) 0 next_offset (omega arith) (omega arith) (omega arith) ∙ fresh_at l (Node 0 next_offset) (omega arith, omega arith)) (omega arith)

pub fresh_anchors : (l : Layout) (s : Index) → IsLayout l → IsOpenedFrom (fresh_image l) s → anchors_in (world s) ≡ [] ∷ []
fresh_anchors l s layout is = is.anchors ∙ ap anchors_of (fresh_list l layout)

-- and the weight of that
empty_weighs : (slots : ℕ) → weight slots empty ([] ∷ []) ≤ slots / 2
empty_weighs slots =
    let none : len (empty {K = List ℕ} {X = ℕ} {R = name_cmp}) ≡ 0 = len-empty name_cmp ℕ in
    let names = ap length (all-between empty) in
    let size = len-keys empty in
    omega (arith, none, names, size)

pub fresh_weighs : (l : Layout) (s : Index) → IsLayout l → IsOpenedFrom (fresh_image l) s → weight_of s ≤ l.slots / 2
fresh_weighs l s layout is =
    let both = (idle_has_shape (world s) is.index.lawful (quiet_parties s is.quiet)).1 in
    let shape : weight s.layout.slots (map_of_index s) (anchors_in (world s)) ≡ weight l.slots empty ([] ∷ []) =
    λ k. weight ((is.layout k).slots) (fresh_contents l s layout is k) (fresh_anchors l s layout is k) in
    let light = empty_weighs l.slots in
    let half = s.layout.slots / 2 in
    let none : gone_nodes s.layout.nodes (facts (world s)) * half ≡ 0 * half = ap (λ (n : ℕ). n * half) is.gone in
    omega (arith, both, none, shape, light)

pub fresh_next : (l : Layout) (s : Index) → IsOpenedFrom (fresh_image l) s → s.generation ≡ 2
fresh_next l s is = is.generation ∙ ap suc (fresh_generation l)

-- ---- a core's own image

pub reopens : (old new : Index) (image : Row) → image ≡ record { layout = old.layout; words = cached_image (world old) } → IsRestImage (world old) → IsOpenedFrom image new → IsReopened old new
reopens old new image is rest opened_so =
    let here : Row = record { layout = old.layout; words = cached_image (world old) } in
    let opened : IsOpenedFrom here new = subst (λ (i : Row). IsOpenedFrom i new) is opened_so in
    let new_weight = opened.weighs in
    let old_weight = rest.weighs in
    record {
      image = here;
      opened = opened;
      layout = opened.layout;
      generation = opened.generation ∙ ap suc rest.generation;
      map = ap (after_all (map_of new.base)) opened.history ∙ has_one_map old.layout (cached_image (world old)) (map_of new.base) (map_now (facts (world old))) opened.keeps rest.keeps;
      weighs = omega (arith, new_weight, old_weight);
    }

-- the image of a core at rest may be opened
pub rest_is_sound : (old : Index) (image : Row) → image ≡ record { layout = old.layout; words = cached_image (world old) } → IsRestImage (world old) → IsSoundByAll image.layout image.words
rest_is_sound old image is rest = subst (λ (i : Row). IsSoundByAll i.layout i.words) (sym is) rest.sound

pub rest_is_early : (old : Index) (image : Row) → image ≡ record { layout = old.layout; words = cached_image (world old) } → IsRestImage (world old) →
    IsGeneration (suc old.generation) → IsGeneration (suc (header_generation image.layout image.words))
rest_is_early old image is rest next =
    subst (λ (i : Row). IsGeneration (suc (header_generation i.layout i.words))) (sym is) (subst (λ (n : ℕ). IsGeneration (suc n)) (sym rest.generation) next)
