-- A node has as many names of a range as the map that it means there.
use Rattle.std.proofs.Common.{◌≡◌, ℕ, zero, suc, ◌<◌, Bool, true, false, is_some, ◌||◌, ⊎_elim, Option, Some, None}
use Rattle.std.proofs.Common.{List, [], ◌∷◌, length, get_or, refl, sym, subst, ap, ◌∙◌, arith}
use Rattle.std.specs.FinMap.{keys}
use Rattle.std.specs.List.{filter, AllByRecursion}
use Rattle.cat_key.specs.Names.{IsName, words_of}
use Rattle.cat_key.proofs.Packing.{words_tell_names}
use Rattle.shapes.specs.cat_history.specs.Maps.{Map, at}
use Rattle.shapes.specs.Anchors.{below, AnchorsRise}
use Rattle.shapes.specs.Members.{is_among}
use Rattle.shapes.proofs.Orders.{same, true_or_false, clash, not_itself, same-is, same-itself}
use Rattle.shapes.proofs.NameLists.{all_by, all-filter, filter-passes, filter-short, filter-keeps, filter-drops}
use Rattle.shapes.proofs.NameLists.{among-filter, rise-filter}
use Rattle.shapes.proofs.Keys.{rise-keys, among-keys}
use Rattle.shapes.proofs.Switches.{position-is}
use Rattle.shapes.proofs.Agreements.{all-at}
use Rattle.data_node.specs.Spots.{Spot, name_words, Means}
use Rattle.data_node.specs.Weights.{has_name_in, names_in}
use Rattle.data_node.proofs.NameCounts.{tally, tally_fits, names_tally, HasIn, slot_has, has_slot, slots_apart}

tally_all : (n : ℕ) → tally n (λ _. true) ≡ n
tally_all zero = refl
tally_all (suc n) = let rest = tally_all n in omega arith

-- the position of a name is one of the list's
position-within : (xs : List (List ℕ)) (x : List ℕ) → is_among x xs ≡ true → length (filter (λ y. below y x) xs) < length xs
position-within [] x has = clash has refl
position-within (y ∷ ys) x has =
    ⊎_elim
    (λ (here : same x y ≡ true).
    let short = filter-short (λ z. below z x) ys in
    let first = ap length (filter-drops (λ z. below z x) y ys (subst (λ z. below y z ≡ false) (sym (same-is x y here)) (not_itself y))) in
    omega arith)
    (λ (other : same x y ≡ false).
    let rest = position-within ys x (sym (ap (λ b. b || is_among x ys) other) ∙ has) in
    elim (below y x) as (λ b. below y x ≡ b → length (filter (λ z. below z x) (y ∷ ys)) < suc (length ys)) [
      | true ↦ λ is. let first = ap length (filter-keeps (λ z. below z x) y ys is) in omega arith
      | false ↦ λ is. let first = ap length (filter-drops (λ z. below z x) y ys is) in omega arith
    ] refl)
    (true_or_false (same x y))

pub each-among : (xs : List (List ℕ)) → AllByRecursion (λ x. is_among x xs ≡ true) xs
each-among [] = tt
each-among (y ∷ ys) = (
  ap (λ b. b || is_among y ys) (same-itself y),
  all_by (λ x. is_among x ys ≡ true) (λ x. is_among x (y ∷ ys) ≡ true) (λ x is. later (same x y) (is_among x ys) is) ys (each-among ys),
)
  where
    later : (a b : Bool) → b ≡ true → (a || b) ≡ true
    later true b is = refl
    later false b is = is

rise-positions : (xs : List (List ℕ)) (j k : ℕ) (d : List ℕ) → AnchorsRise xs → j < length xs → k < length xs → get_or xs j d ≡ get_or xs k d → j ≡ k
rise-positions [] j k d rise within within' e = absurd (omega (arith, within))
rise-positions (x ∷ xs) zero zero d rise within within' e = refl
rise-positions (x ∷ xs) zero (suc k) d rise within within' e =
    clash (all-at (λ y. below x y ≡ true) xs k d rise.0 (omega (arith, within'))) (subst (λ y. below x y ≡ false) e (not_itself x))
rise-positions (x ∷ xs) (suc j) zero d rise within within' e =
    clash (all-at (λ y. below x y ≡ true) xs j d rise.0 (omega (arith, within))) (subst (λ y. below x y ≡ false) (sym e) (not_itself x))
rise-positions (x ∷ xs) (suc j) (suc k) d rise within within' e = ap suc (rise-positions xs j k d rise.1 (omega (arith, within)) (omega (arith, within')) e)

pub value-of : (o : Option ℕ) → is_some o ≡ true → (v : ℕ) × (o ≡ Some v)
value-of None is = clash is refl
value-of (Some v) is = (v, refl)

pub range_names : (slots : ℕ) (range : List ℕ → Bool) (s : Spot) (m : Map) → Means slots range s m → ((name : List ℕ) (value : ℕ) → at m name ≡ Some value → IsName name) →
    names_in slots range s ≡ length (filter range (keys m))
range_names slots range s m means named =
    let xs : List (List ℕ) = filter range (keys m) in
    let rise : AnchorsRise xs = rise-filter range (keys m) (rise-keys m) in
    let up = tally_fits slots (length xs) (has_name_in range s) (λ _. true) (λ i j. name_words s i ≡ words_of (get_or xs j []))
    (λ i within is.
    let here = slot_has slots range s m means i within is in
    let among : is_among here.0 xs ≡ true = among-filter range here.0 (keys m) here.1.inside ∙ among-keys m here.0 ∙ ap is_some here.1.has in
    (length (filter (λ y. below y here.0) xs), position-within xs here.0 among, refl, here.2 ∙ ap words_of (sym (position-is xs here.0 [] rise among))))
    (λ i other j within other_within is other_is a b. slots_apart slots range s m means i other within other_within is other_is (a ∙ sym b)) in
    let has : (j : ℕ) → j < length xs → HasIn range m (get_or xs j []) = (λ j within. has_at j within) in
    let down = tally_fits (length xs) slots (λ _. true) (has_name_in range s) (λ j i. name_words s i ≡ words_of (get_or xs j []))
    (λ j within is. has_slot slots range s m means (get_or xs j []) (has j within))
    (λ j other i within other_within is other_is a b.
    rise-positions xs j other [] rise within other_within (words_tell_names (get_or xs j []) (get_or xs other []) (has j within).is_name (has other other_within).is_name (sym a ∙ b))) in
    omega (arith, up, down, names_tally slots range s, tally_all (length (filter range (keys m))))
  where
    has_at : (j : ℕ) → j < length (filter range (keys m)) → HasIn range m (get_or (filter range (keys m)) j [])
    has_at j within =
        let xs : List (List ℕ) = filter range (keys m) in
        let inside = all-at (λ x. range x ≡ true) xs j [] (filter-passes range (keys m)) within in
        let there = all-at (λ x. is_among x (keys m) ≡ true) xs j [] (all-filter range (λ x. is_among x (keys m) ≡ true) (keys m) (each-among (keys m))) within in
        let value = value-of (at m (get_or xs j [])) (sym (among-keys m (get_or xs j [])) ∙ there) in
        record { is_name = named (get_or xs j []) value.0 value.1; inside = inside; value = value.0; has = value.1 }
