-- A switch cuts a member, in the words of anchors.
use Rattle.std.proofs.Common.{◌≡◌, ◌≢◌, ℕ, ◌/◌, ◌<◌, ◌≤◌, ⊎_elim, Bool, true, false, cond, not, ◌&&◌, nat_lt, nat_le, Option, Some, List, [], ◌∷◌, ◌++◌, length, refl, sym, ap, ◌∙◌, subst, arith, ltb-true, ltb-false, le-leb, eq-eqb, ne_eqb, eqb-true}
use Rattle.std.proofs.lemmas.Bool.{lt-leb}
use Rattle.std.specs.FinMap.{keys}
use Rattle.std.specs.List.{filter, AllByRecursion}
use Rattle.pm_words.specs.declared.layout.Layout.{Layout}
use Rattle.cat_key.specs.Names.{IsName}
use Rattle.cat_history.specs.Maps.{Map, at}
use Rattle.shapes.specs.Anchors.{below, Anchors, AreAnchors, is_under, is_between, names_between, names_at, target_of, next_of}
use Rattle.shapes.specs.Anchors as shape
use Rattle.shapes.specs.Members.{is_among, with_name}
use Rattle.shapes.proofs.Orders.{same, true_or_false, clash, not_back, below-chain, neither, same-is, below-differs, above-differs}
use Rattle.shapes.proofs.NameLists.{all_by, all_append, filter-keeps, filter-drops, filter-none, filter-alike, filter-twice}
use Rattle.shapes.proofs.Keys.{with_name-lowest, among-keys}
use Rattle.shapes.proofs.Targets.{part, target-is, before-low, first-names}
use Rattle.shapes.proofs.Agreements.{and-first, and-second}
use Rattle.data_node.specs.Spots.{Spot, Means}
use Rattle.data_node.specs.Lists.{ListNode, anchor_in, key_of, target_from, IsChain, Rise, with_member}
use Rattle.data_node.proofs.RangeNames.{range_names, each-among, value-of}
use Rattle.call_stages.specs.Kinds.{below_key}
use Rattle.index_law.specs.Facts.{Facts, map_now, range_of}
use Rattle.index_law.specs.Lawful.{IsList}
use Rattle.index_law.specs.Shapes.{IsHalved}
use Rattle.index_law.specs.Anchors.{text_of_key, anchors_of, CutsMember}
use Rattle.index_law.proofs.AnchorTexts.{named-text, key-order, key-back}
use Rattle.index_law.proofs.Anchored.{Named, texts, TextOf, text-of, text-below, rise-texts, list_has_anchors, ranges_are_members, member-or-here}
use Rattle.data_node.proofs.ListLemmas.{rise_at}
use Rattle.index_law.proofs.Switch.{rise_from}

with_name-later : (n x : List ℕ) (xs : List (List ℕ)) → below x n ≡ true → with_name n (x ∷ xs) ≡ x ∷ with_name n xs
with_name-later n x xs is =
    ap (λ ys. ys ++ n ∷ filter (λ y. below n y) (x ∷ xs)) (filter-keeps (λ y. below y n) x xs is)
    ∙ ap (λ ys. x ∷ filter (λ y. below y n) xs ++ n ∷ ys) (filter-drops (λ y. below n y) x xs (not_back x n is))

module _ (now : ℕ → Spot) (cut : List ℕ) (named_cut : IsName cut) (n : ℕ) (new : ListNode) (anchored : new.anchor ≡ key_of cut) where
  new-text : text_of_key new.anchor ≡ cut
  new-text = ap text_of_key anchored ∙ key-back cut named_cut

  -- one member more behind the target of a text is this text among the anchors
  pub cut-texts : (here : ℕ) (low : List ℕ) (list : List ListNode) → IsChain now here list → Rise (anchor_in (now here)) list → Named list → AllByRecursion (λ t. same cut t ≡ false) (texts list) →
      target_from here list (key_of cut) ≡ n → texts (with_member n new here list) ≡ with_name cut (texts list)
  cut-texts here low [] chain rise named apart is = ap (λ b. texts (cond b (new ∷ []) [])) (eq-eqb here n is) ∙ ap (λ t. t ∷ []) new-text
  cut-texts here low (m ∷ behind) chain rise named apart is =
      let t : List ℕ = text_of_key m.anchor in
      let tm : TextOf m.anchor t = text-of m named.0 in
      let by : below cut t ≡ nat_lt (key_of cut) m.anchor = text-below (key_of cut) m.anchor cut t (record { is_text = named-text cut named_cut; is = refl }) tm in
      let split : (b : Bool) → nat_le m.anchor (key_of cut) ≡ b → target_from here (m ∷ behind) (key_of cut) ≡ cond b (target_from m.node behind (key_of cut)) here =
      λ b e. ap (λ c. cond c (target_from m.node behind (key_of cut)) here) e in
      ⊎_elim
      (λ (under : below cut t ≡ true).
      let stays : here ≡ n = sym (split false (lt-leb m.anchor (key_of cut) (ltb-true (key_of cut) m.anchor (sym by ∙ under)))) ∙ is in
      ap (λ b. texts (cond b (new ∷ m ∷ behind) (m ∷ with_member n new m.node behind))) (eq-eqb here n stays)
      ∙ ap (λ x. x ∷ t ∷ texts behind) new-text
      ∙ sym (with_name-lowest cut (t ∷ texts behind)
      (under, all_by (λ d. below t d ≡ true) (λ d. below cut d ≡ true) (λ d more. below-chain cut t d under more) (texts behind) (rise-texts m.anchor t behind tm rise.1 named.1).0)))
      (λ (from : below cut t ≡ false).
      let above : below t cut ≡ true = ⊎_elim (λ (y : below t cut ≡ true). y) (λ (un : below t cut ≡ false). clash (neither cut t from un) apart.0) (true_or_false (below t cut)) in
      let goes : target_from m.node behind (key_of cut) ≡ n = sym (split true (le-leb m.anchor (key_of cut) (ltb-false (key_of cut) m.anchor (sym by ∙ from)))) ∙ is in
      let other : here ≢ n = λ e. member-or-here now here m behind chain rise (key_of cut) (e ∙ sym goes) in
      ap (λ b. texts (cond b (new ∷ m ∷ behind) (m ∷ with_member n new m.node behind))) (ne_eqb here n other)
      ∙ ap (λ xs. t ∷ xs) (cut-texts m.node t behind chain.3 (rise_at now m behind chain.2 rise.1) named.1 apart.1 goes)
      ∙ sym (with_name-later cut t (texts behind) above))
      (true_or_false (below cut t))

-- the keys of a map of names are names
pub all-named : (m : Map) → ((name : List ℕ) (value : ℕ) → at m name ≡ Some value → IsName name) → AllByRecursion IsName (keys m)
all-named m named =
    all_by (λ x. is_among x (keys m) ≡ true) IsName (λ x is. let v = value-of (at m x) (sym (among-keys m x) ∙ is) in named x v.0 v.1) (keys m) (each-among (keys m))

not-is : (b : Bool) → not b ≡ true → b ≡ false
not-is true is = clash is refl
not-is false is = refl

pub below-empty : (name : List ℕ) → IsName name → below [] name ≡ true
below-empty [] named = absurd (let some = named.some in omega arith)
below-empty (x ∷ xs) named = refl

module _ (l : Layout) (f : Facts) (list : IsList l f) (named : (name : List ℕ) (value : ℕ) → at (map_now f) name ≡ Some value → IsName name) (n : ℕ) (name : List ℕ) (is_name : IsName name)
    (inside : range_of l f n name ≡ true) where
  abbrev low : List ℕ
  low = target_of (anchors_of f.list) name

  abbrev high : Option (List ℕ)
  high = next_of (anchors_of f.list) name

  alike : (x : List ℕ) → IsName x → range_of l f n x ≡ is_between low high x
  alike x nx = ranges_are_members l f n name x list is_name nx inside

  -- a node's names are those of the member
  pub range-names : filter (range_of l f n) (keys (map_now f)) ≡ names_at (map_now f) (anchors_of f.list) name
  range-names = filter-alike (range_of l f n) (is_between low high) (keys (map_now f)) (all_by IsName (λ x. range_of l f n x ≡ is_between low high x) alike (keys (map_now f)) (all-named (map_now f) named))

  its-own : is_between low high name ≡ true
  its-own = sym (alike name is_name) ∙ inside

  -- those below the name
  pub lower-names : filter (below_key (range_of l f n) (key_of name)) (keys (map_now f)) ≡ names_between (map_now f) low (Some name)
  lower-names =
      filter-alike (below_key (range_of l f n) (key_of name)) (λ x. is_between low high x && below x name) (keys (map_now f))
      (all_by IsName (λ x. below_key (range_of l f n) (key_of name) x ≡ (is_between low high x && below x name))
      (λ x nx. (λ i. alike x nx i && sym (key-order x name (named-text x nx) (named-text name is_name)) i)) (keys (map_now f)) (all-named (map_now f) named))
      ∙ sym (filter-twice (λ x. below x name) (is_between low high) (keys (map_now f)))
      ∙ sym (first-names low name high (not-is (below name low) (and-first (not (below name low)) (is_under high name) its-own)) (and-second (not (below name low)) (is_under high name) its-own) (map_now f))

-- a name that has names of its member below it is no anchor
no-anchor : (m : Map) (anchors : Anchors) (cut : List ℕ) → AreAnchors anchors → 0 < length (names_between m (target_of anchors cut) (Some cut)) → AllByRecursion (λ t. same cut t ≡ false) anchors
no-anchor m anchors cut are some =
    let p = part anchors cut are in
    let strict : below p.low cut ≡ true = ⊎_elim
    (λ (is : below p.low cut ≡ true). is)
    (λ (isnt : below p.low cut ≡ false).
    let e : cut ≡ p.low = same-is cut p.low (neither cut p.low p.at_most isnt) in
    let none : names_between m p.low (Some cut) ≡ [] = subst (λ x. names_between m x (Some cut) ≡ []) e (filter-none (is_between cut (Some cut)) (keys m) (nothing (keys m))) in
    let size : length (names_between m (target_of anchors cut) (Some cut)) ≡ 0 = ap (λ x. length (names_between m x (Some cut))) (target-is anchors cut p) ∙ ap length none in
    absurd (omega arith))
    (true_or_false (below p.low cut)) in
    subst (AllByRecursion (λ t. same cut t ≡ false)) (sym p.is)
    (all_append (λ t. same cut t ≡ false) p.before (p.low ∷ p.after)
    (all_by (λ a. below a p.low ≡ true) (λ a. same cut a ≡ false) (λ a is. above-differs cut a (below-chain a p.low cut is strict)) p.before (before-low p.before p.low p.after (subst shape.AnchorsRise p.is are.rise)))
    (above-differs cut p.low strict, all_by (λ a. below cut a ≡ true) (λ a. same cut a ≡ false) (λ a is. below-differs cut a is) p.after p.above))
  where
    apart : (b : Bool) → (not b && b) ≡ false
    apart true = refl
    apart false = refl

    nothing : (xs : List (List ℕ)) → AllByRecursion (λ x. is_between cut (Some cut) x ≡ false) xs
    nothing [] = tt
    nothing (x ∷ xs) = (apart (below x cut), nothing xs)

pub cuts_member : (l : Layout) (f f' : Facts) → 2 ≤ l.slots → IsList l f → ((name : List ℕ) (value : ℕ) → at (map_now f) name ≡ Some value → IsName name) → (is : IsHalved l f f'.list) → (cut : CutsMember l f (anchors_of f'.list)) × (cut.node ≡ is.node)
cuts_member l f f' enough list named is =
    let cut : List ℕ = is.anchor in
    let sub : Means l.slots (below_key (range_of l f is.node) (key_of cut)) (f.now is.node) (map_now f) =
    record { tidy = is.means.tidy; agrees = λ name nn inside. is.means.agrees name nn (and-first (range_of l f is.node name) (nat_lt (key_of name) (key_of cut)) inside) } in
    let full : length (names_at (map_now f) (anchors_of f.list) cut) ≡ l.slots =
    ap length (sym (range-names l f list named is.node cut is.named is.inside)) ∙ sym (range_names l.slots (range_of l f is.node) (f.now is.node) (map_now f) is.means named) ∙ is.full in
    let half : length (names_between (map_now f) (target_of (anchors_of f.list) cut) (Some cut)) ≡ l.slots / 2 =
    ap length (sym (lower-names l f list named is.node cut is.named is.inside)) ∙ sym (range_names l.slots (below_key (range_of l f is.node) (key_of cut)) (f.now is.node) (map_now f) sub named) ∙ is.half in
    let apart = no-anchor (map_now f) (anchors_of f.list) cut (list_has_anchors l f list) (omega arith) in
    let more : anchors_of f'.list ≡ with_name cut (anchors_of f.list) = ap anchors_of is.longer
    ∙ ap (λ xs. [] ∷ xs) (cut-texts f.now cut is.named is.node (record { node = is.fresh; anchor = key_of cut }) refl 0 [] f.list list.chain (rise_from l f list) list.named apart.1
    (eqb-true (target_from 0 f.list (key_of cut)) is.node is.inside))
    ∙ sym (with_name-later cut [] (texts f.list) (below-empty cut is.named)) in
    (search (is.named, is.had, is.inside, full, half, more), refl)
