-- What a switch store does to the anchors is the split, or the merge.
use Rattle.std.proofs.Common.{◌≡◌, ℕ, ◌/◌, Bool, true, false, not, ◌||◌, is_some, IsSome, ⊎_elim, Option, Some, None, List, [], ◌∷◌, ◌++◌, length, get_or, drop, slice_get, unwrap_or, append_assoc, refl, sym, ap, subst, ◌∙◌}
use Rattle.std.proofs.lemmas.List.Elements.{filter-append}
use Rattle.std.specs.FinMap.{keys}
use Rattle.std.specs.List.{filter, AllByRecursion}
use Rattle.cat_history.specs.Maps.{at}
use Rattle.shapes.specs.Anchors.{below, AnchorsRise, Anchors, is_under, is_between, names_between, target_of}
use Rattle.shapes.specs.Members.{is_among, with_name, without_name}
use Rattle.shapes.specs.Laws.{HalfIsSplit, DropIsMerge}
use Rattle.shapes.proofs.Orders.{same, true_or_false, clash, not_itself, not_back, below-chain, same-is, same-itself, below-differs, above-differs}
use Rattle.shapes.proofs.NameLists.{all_by, filter-keeps, filter-drops, filter-all, filter-none, among-all, among-filter}
use Rattle.shapes.proofs.Keys.{among-keys, rise-between}
use Rattle.shapes.proofs.Targets.{Parted, part, target-is, next-is, before-low, rise-second, first-names}
use Rattle.shapes.proofs.Agreements.{fits-target, put-splits, and-first, and-second, middle-above, middle-below, middle-under}
use Rattle.shapes.proofs.Shapes.{its-many, del-merges}

-- a name is at the place that has as many names below it
pub position-is : (xs : List (List ℕ)) (x d : List ℕ) → AnchorsRise xs → is_among x xs ≡ true → get_or xs (length (filter (λ y. below y x) xs)) d ≡ x
position-is [] x d rise has = clash has refl
position-is (y ∷ ys) x d rise has =
    ⊎_elim
    (λ (here : same x y ≡ true).
    let e : x ≡ y = same-is x y here in
    subst (λ z. get_or (y ∷ ys) (length (filter (λ y. below y z) (y ∷ ys))) d ≡ z) (sym e)
    (ap (λ zs. get_or (y ∷ ys) (length zs) d)
    (filter-none (λ z. below z y) (y ∷ ys) (not_itself y, all_by (λ z. below y z ≡ true) (λ z. below z y ≡ false) (λ z above. not_back y z above) ys rise.0))))
    (λ (other : same x y ≡ false).
    let later : is_among x ys ≡ true = sym (ap (λ b. b || is_among x ys) other) ∙ has in
    ap (λ zs. get_or (y ∷ ys) (length zs) d) (filter-keeps (λ z. below z x) y ys (among-all (λ z. below y z ≡ true) ys x rise.0 later))
    ∙ position-is ys x d rise.1 later)
    (true_or_false (same x y))

-- one text more between those below it and those above it
with_name-between : (before : Anchors) (low x : List ℕ) (after : Anchors) → AllByRecursion (λ a. below a low ≡ true) before → below low x ≡ true → AllByRecursion (λ a. below x a ≡ true) after →
    with_name x (before ++ low ∷ after) ≡ before ++ low ∷ x ∷ after
with_name-between before low x after lower above higher =
    let those_below : AllByRecursion (λ a. below a x ≡ true) before = all_by (λ a. below a low ≡ true) (λ a. below a x ≡ true) (λ a is. below-chain a low x is above) before lower in
    let firsts : filter (λ a. below a x) (before ++ low ∷ after) ≡ before ++ low ∷ [] =
    filter-append (λ a. below a x) before (low ∷ after)
    ∙ ap (λ xs. xs ++ filter (λ a. below a x) (low ∷ after)) (filter-all (λ a. below a x) before those_below)
    ∙ ap (λ xs. before ++ xs) (filter-keeps (λ a. below a x) low after above
    ∙ ap (λ xs. low ∷ xs) (filter-none (λ a. below a x) after (all_by (λ a. below x a ≡ true) (λ a. below a x ≡ false) (λ a is. not_back x a is) after higher))) in
    let seconds : filter (λ a. below x a) (before ++ low ∷ after) ≡ after =
    filter-append (λ a. below x a) before (low ∷ after)
    ∙ ap (λ xs. xs ++ filter (λ a. below x a) (low ∷ after)) (filter-none (λ a. below x a) before (all_by (λ a. below a x ≡ true) (λ a. below x a ≡ false) (λ a is. not_back a x is) before those_below))
    ∙ filter-drops (λ a. below x a) low after (not_back low x above) ∙ filter-all (λ a. below x a) after higher in
    ap (λ xs. xs ++ x ∷ filter (λ a. below x a) (before ++ low ∷ after)) firsts
    ∙ ap (λ xs. (before ++ low ∷ []) ++ x ∷ xs) seconds
    ∙ append_assoc before (low ∷ []) (x ∷ after)

not-is : (b : Bool) → not b ≡ true → b ≡ false
not-is true is = clash is refl
not-is false is = refl

some-is : (o : Option ℕ) → IsSome o → is_some o ≡ true
some-is None has = absurd (let wrong : false ≡ true = has in cc)
some-is (Some x) has = refl

pub half_is_split : HalfIsSplit
half_is_split slots nodes m anchors name cut enough shape is cuts =
    let p = part anchors name shape.ordered in
    let high : Option (List ℕ) = slice_get p.after 0 in
    let its : List (List ℕ) = names_between m p.low high in
    let fits = fits-target slots m anchors name p shape.fits in
    let many = its-many slots m anchors name p is in
    let inside : is_between p.low high cut ≡ true = subst (λ low. is_between low high cut ≡ true) (target-is anchors name p) (subst (λ next. is_between (target_of anchors name) next cut ≡ true) (next-is anchors name p) cuts.inside) in
    let from : below cut p.low ≡ false = not-is (below cut p.low) (and-first (not (below cut p.low)) (is_under high cut) inside) in
    let under : is_under high cut ≡ true = and-second (not (below cut p.low)) (is_under high cut) inside in
    let half : length (filter (λ y. below y cut) its) ≡ slots / 2 =
    ap length (sym (first-names p.low cut high from under m)) ∙ subst (λ low. length (names_between m low (Some cut)) ≡ slots / 2) (target-is anchors name p) cuts.half in
    let among : is_among cut its ≡ true = among-filter (is_between p.low high) cut (keys m) inside ∙ among-keys m cut ∙ some-is (at m cut) cuts.had in
    let middle : List ℕ = get_or its (slots / 2) [] in
    let same : middle ≡ cut = ap (λ k. get_or its k []) (sym half) ∙ position-is its cut [] (rise-between m p.low high) among in
    let ordered : AnchorsRise (p.before ++ p.low ∷ p.after) = subst AnchorsRise p.is shape.ordered.rise in
    ap (with_name cut) p.is
    ∙ ap (λ x. with_name x (p.before ++ p.low ∷ p.after)) (sym same)
    ∙ with_name-between p.before p.low middle p.after (before-low p.before p.low p.after ordered)
    (middle-above slots nodes m anchors name 0 enough shape.ordered p fits many)
    (middle-below slots nodes m anchors name 0 enough shape.ordered p fits many p.after (rise-second p.before (p.low ∷ p.after) ordered).1
    (middle-under slots nodes m anchors name 0 enough shape.ordered p fits many))
    ∙ sym (put-splits slots m anchors name p is)

-- those that rise without one of them
without-next : (before : Anchors) (low h : List ℕ) (rest : Anchors) → AnchorsRise (before ++ low ∷ h ∷ rest) → without_name h (before ++ low ∷ h ∷ rest) ≡ before ++ low ∷ rest
without-next [] low h rest rise =
    filter-keeps (λ a. not (same h a)) low (h ∷ rest) (ap not (above-differs h low rise.0.0))
    ∙ ap (λ xs. low ∷ xs) (filter-drops (λ a. not (same h a)) h rest (ap not (same-itself h))
    ∙ filter-all (λ a. not (same h a)) rest (all_by (λ a. below h a ≡ true) (λ a. not (same h a) ≡ true) (λ a above. ap not (below-differs h a above)) rest rise.1.0))
without-next (b ∷ bs) low h rest rise =
    filter-keeps (λ a. not (same h a)) b (bs ++ low ∷ h ∷ rest) (ap not (above-differs h b (last-below bs rise.0)))
    ∙ ap (λ xs. b ∷ xs) (without-next bs low h rest rise.1)
  where
    last-below : (xs : Anchors) → AllByRecursion (λ a. below b a ≡ true) (xs ++ low ∷ h ∷ rest) → below b h ≡ true
    last-below [] all = all.1.0
    last-below (x ∷ xs) all = last-below xs all.1

pub drop_is_merge : DropIsMerge
drop_is_merge slots m anchors name next are is here =
    let p = part anchors name are in
    by-after p.after p refl (sym (next-is anchors name p) ∙ here) ∙ sym (del-merges slots m anchors name p is)
  where
    by-after : (after : Anchors) (p : Parted anchors name) → p.after ≡ after → slice_get after 0 ≡ Some next → without_name next anchors ≡ p.before ++ p.low ∷ drop 1 p.after
    by-after [] p is_after first = absurd (let wrong : None ≡ Some next = first in cc)
    by-after (h ∷ rest) p is_after first =
        let e : h ≡ next = ap (λ o. unwrap_or o h) first in
        let whole : anchors ≡ p.before ++ p.low ∷ h ∷ rest = p.is ∙ ap (λ xs. p.before ++ p.low ∷ xs) is_after in
        ap (λ x. without_name x anchors) (sym e) ∙ ap (without_name h) whole
        ∙ without-next p.before p.low h rest (subst AnchorsRise whole are.rise)
        ∙ ap (λ xs. p.before ++ p.low ∷ drop 1 xs) (sym is_after)
