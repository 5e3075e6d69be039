-- A map of one member that there can be.
use Rattle.std.proofs.Common.{◌≡◌, ℕ, ◌/◌, ◌≤◌, nat_le, Bool, true, false, ◌&&◌, ◌↔◌, is_some, is_none, Option, None, Some, List, [], ◌∷◌, length, slice_get, ⊎_elim, refl, ap, ◌∙◌, leb-true}
use Rattle.std.specs.FinMap.{len, remove}
use Rattle.cat_history.specs.Maps.{Map, at, LacksRoom}
use Rattle.shapes.specs.Anchors.{Anchors, below, past, next_of, target_of, names_between, names_at, IsFullPut, splits, put_anchors, del_anchors}
use Rattle.shapes.proofs.Orders.{true_or_false, clash, empty_first}
use Rattle.shapes.proofs.Agreements.{put-stays, and-first, and-second}
use Rattle.shapes.proofs.NameLists.{filter-drops}
use Rattle.shapes.proofs.Targets.{and_false}
use Rattle.shapes.proofs.Shapes.{one_node_is_room, del-stays}

-- a put is full there exactly where it finds no room
pub one_full : (slots : ℕ) (m : Map) (name : List ℕ) {A : Type 0} → len m ≤ slots → A ↔ LacksRoom slots m name → A ↔ IsFullPut slots 1 m ([] ∷ []) name
one_full slots m name few full =
    let room = one_node_is_room slots m name few in
    ((λ a. room.1 (full.0 a)), (λ none. full.1 (room.0 none)))

none-if : (o : Option ℕ) → is_none o ≡ true → o ≡ None
none-if None is = refl
none-if (Some x) is = clash is refl

-- there is no next member,
pub one_ends : (name : List ℕ) → next_of ([] ∷ []) name ≡ None
one_ends name = ap (λ (xs : Anchors). slice_get xs 0) (filter-drops (λ anchor. below name anchor) [] [] (empty_first name))

-- so a delete merges nothing
pub one_merges_none : (slots : ℕ) (m : Map) (name : List ℕ) → del_anchors slots m ([] ∷ []) name ≡ [] ∷ []
one_merges_none slots m name =
    let none : is_some (next_of ([] ∷ []) name) ≡ false = ap {B = Bool} is_some (one_ends name) in
    del-stays slots m ([] ∷ []) name
    (ap (λ b. is_some (at m name) && (b && nat_le
    (length (names_between (remove m name) (target_of ([] ∷ []) name) (slice_get (past ([] ∷ []) name) 1))) (slots / 2))) none
    ∙ and_false (is_some (at m name)))

-- and where it isn't full a put splits nothing
pub one_stays : (slots : ℕ) (m : Map) (name : List ℕ) → (IsFullPut slots 1 m ([] ∷ []) name → ⊥) → put_anchors slots m ([] ∷ []) name ≡ [] ∷ []
one_stays slots m name room =
    ⊎_elim
    (λ (is : splits slots m ([] ∷ []) name ≡ true). absurd (room (record {
      lacks = none-if (at m name) (and-first (is_none (at m name)) (nat_le slots (length (names_at m ([] ∷ []) name))) is);
      whole = leb-true slots (length (names_at m ([] ∷ []) name)) (and-second (is_none (at m name)) (nat_le slots (length (names_at m ([] ∷ []) name))) is);
      no_node = refl;
    })))
    (λ (isnt : splits slots m ([] ∷ []) name ≡ false). put-stays slots m ([] ∷ []) name isnt)
    (true_or_false (splits slots m ([] ∷ []) name))
