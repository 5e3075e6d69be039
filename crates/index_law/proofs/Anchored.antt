-- The anchors of a list: they rise, ranges are members, and a switch puts one name more among them.
use Rattle.std.proofs.Common.{◌≡◌, ◌≢◌, ℕ, ◌<◌, inl, inr, ⊎_elim, Bool, true, false, cond, not, ◌&&◌, ◌==◌, nat_lt, None, List, [], ◌∷◌, map, slice_get, unwrap_or, refl, sym, ap, ◌∙◌, subst, arith, lt-ltb, ltb-true, ltb-false, le-leb, eq-eqb, ne_eqb, eqb-true}
use Rattle.std.proofs.lemmas.Bool.{lt-leb}
use Rattle.std.specs.List.{last_or, AllByRecursion}
use Rattle.cat_key.specs.Names.{IsName, words_of, word_of}
use Rattle.shapes.specs.Anchors.{below, Anchors, AreAnchors, is_between, names_between, names_at, up_to, past, target_of, next_of}
use Rattle.shapes.specs.Anchors as shape
use Rattle.shapes.proofs.Orders.{true_or_false, not_itself, not_back, below-upto, upto-chain, below-chain, empty_first}
use Rattle.shapes.proofs.NameLists.{all_by, filter-keeps, filter-drops, filter-all, filter-none}
use Rattle.data_node.specs.Spots.{Spot}
use Rattle.data_node.specs.Lists.{ListNode, anchor_in, key_of, target_from, IsMember, IsChain, Rise}
use Rattle.index_law.specs.Anchors.{text_of_key, ListHasAnchors, RangesAreMembers}
use Rattle.index_law.proofs.AnchorTexts.{IsText, named-text, empty-text, key-order, key-back}
use Rattle.data_node.proofs.ListLemmas.{target_in, not_behind, rise_at}
use Rattle.index_law.proofs.Switch.{rise_from}

abbrev pub Named : List ListNode → Type 0
Named list = AllByRecursion (λ (m : ListNode). (name : List ℕ) × IsName name × (m.anchor ≡ key_of name)) list

abbrev pub texts : List ListNode → Anchors
texts list = map (λ (m : ListNode). text_of_key m.anchor) list

-- A text and the number of its words.
pub record TextOf (key : ℕ) (text : List ℕ) : Type 0 where
  pub is_text : IsText text
  pub is : key_of text ≡ key

pub text-of : (m : ListNode) → (name : List ℕ) × IsName name × (m.anchor ≡ key_of name) → TextOf m.anchor (text_of_key m.anchor)
text-of m h =
    let e : text_of_key m.anchor ≡ h.0 = ap text_of_key h.2 ∙ key-back h.0 h.1 in
    record { is_text = subst IsText (sym e) (named-text h.0 h.1); is = ap key_of e ∙ sym h.2 }

pub empty-of : TextOf 0 []
unfolding key_of words_of word_of
empty-of = record { is_text = empty-text; is = refl }

-- below, by the numbers
pub text-below : (key key' : ℕ) (a b : List ℕ) → TextOf key a → TextOf key' b → below a b ≡ nat_lt key key'
text-below key key' a b ta tb = key-order a b ta.is_text tb.is_text ∙ (λ i. nat_lt (ta.is i) (tb.is i))

all-higher : (least : ℕ) (list : List ListNode) → Rise least list → AllByRecursion (λ (m : ListNode). least < m.anchor) list
all-higher least [] rise = tt
all-higher least (m ∷ behind) rise =
    (rise.0, all_by (λ (o : ListNode). m.anchor < o.anchor) (λ (o : ListNode). least < o.anchor) (λ o more. let first = rise.0 in omega (arith, more)) behind (all-higher m.anchor behind rise.1))

above-text : (least : ℕ) (low : List ℕ) (list : List ListNode) → TextOf least low → AllByRecursion (λ (m : ListNode). least < m.anchor) list → Named list →
    AllByRecursion (λ other. below low other ≡ true) (texts list)
above-text least low [] tl all named = tt
above-text least low (m ∷ behind) tl all named =
    (text-below least m.anchor low (text_of_key m.anchor) tl (text-of m named.0) ∙ lt-ltb least m.anchor all.0, above-text least low behind tl all.1 named.1)

pub rise-texts : (least : ℕ) (low : List ℕ) (list : List ListNode) → TextOf least low → Rise least list → Named list → shape.AnchorsRise (low ∷ texts list)
rise-texts least low [] tl rise named = (tt, tt)
rise-texts least low (m ∷ behind) tl rise named =
    (above-text least low (m ∷ behind) tl (all-higher least (m ∷ behind) rise) named, rise-texts m.anchor (text_of_key m.anchor) behind (text-of m named.0) rise.1 named.1)

pub list_has_anchors : ListHasAnchors
list_has_anchors l f list = record { first = refl; rise = rise-texts 0 [] f.list empty-of list.rise list.named }

-- ---- the target among anchors

pub here-target : (a : List ℕ) (rest : Anchors) (name : List ℕ) → below name a ≡ false → AllByRecursion (λ b. below name b ≡ true) rest →
    (target_of (a ∷ rest) name ≡ a) × (next_of (a ∷ rest) name ≡ slice_get rest 0)
here-target a rest name from above = (
  ap (λ xs. unwrap_or (last_or None xs) [])
      (filter-keeps (λ b. not (below name b)) a rest (ap not from)
      ∙ ap (λ xs. a ∷ xs) (filter-none (λ b. not (below name b)) rest (all_by (λ b. below name b ≡ true) (λ b. not (below name b) ≡ false) (λ b is. ap not is) rest above))),
  ap (λ xs. slice_get xs 0) (filter-drops (λ b. below name b) a rest from ∙ filter-all (λ b. below name b) rest above),
)

pub later-target : (a b : List ℕ) (rest : Anchors) (name : List ℕ) → below name a ≡ false → below name b ≡ false →
    (target_of (a ∷ b ∷ rest) name ≡ target_of (b ∷ rest) name) × (next_of (a ∷ b ∷ rest) name ≡ next_of (b ∷ rest) name)
later-target a b rest name from later = (
  ap (λ xs. unwrap_or (last_or None xs) []) (filter-keeps (λ c. not (below name c)) a (b ∷ rest) (ap not from))
      ∙ ap (λ xs. unwrap_or (last_or None (a ∷ xs)) []) (filter-keeps (λ c. not (below name c)) b rest (ap not later))
      ∙ sym (ap (λ xs. unwrap_or (last_or None xs) []) (filter-keeps (λ c. not (below name c)) b rest (ap not later))),
  ap (λ xs. slice_get xs 0) (filter-drops (λ c. below name c) a (b ∷ rest) from),
)

pub higher : (b c : List ℕ) (rest : Anchors) (name : List ℕ) → below name c ≡ true → shape.AnchorsRise (b ∷ c ∷ rest) → AllByRecursion (λ d. below name d ≡ true) (c ∷ rest)
higher b c rest name is rise = (is, all_by (λ d. below c d ≡ true) (λ d. below name d ≡ true) (λ d more. below-chain name c d is more) rest rise.1.0)

target-from-first : (b : List ℕ) (rest : Anchors) (name : List ℕ) → shape.AnchorsRise (b ∷ rest) → below name b ≡ false → below (target_of (b ∷ rest) name) b ≡ false
target-from-first b [] name rise from = subst (λ t. below t b ≡ false) (sym (here-target b [] name from tt).0) (not_itself b)
target-from-first b (c ∷ rest) name rise from =
    ⊎_elim
    (λ (is : below name c ≡ true). subst (λ t. below t b ≡ false) (sym (here-target b (c ∷ rest) name from (higher b c rest name is rise)).0) (not_itself b))
    (λ (isnt : below name c ≡ false).
    subst (λ t. below t b ≡ false) (sym (later-target b c rest name from isnt).0)
    (upto-chain b c (target_of (c ∷ rest) name) (not_back b c rise.0.0) (target-from-first c rest name rise.1 isnt)))
    (true_or_false (below name c))

pub and_false : (b : Bool) → (b && false) ≡ false
and_false true = refl
and_false false = refl

-- ---- ranges are members

module _ (now : ℕ → Spot) where
  pub member-or-here : (here : ℕ) (m : ListNode) (behind : List ListNode) → IsChain now here (m ∷ behind) → Rise (anchor_in (now here)) (m ∷ behind) → (key : ℕ) → here ≢ target_from m.node behind key
  member-or-here here m behind chain rise key e =
      not_behind now here (m ∷ behind) chain rise
      (⊎_elim (λ (first : target_from m.node behind key ≡ m.node). inl (e ∙ first)) (λ later. inr (subst (IsMember behind) (sym e) later)) (target_in m.node behind key))

  pub ranges : (here : ℕ) (low : List ℕ) (list : List ListNode) → IsChain now here list → Rise (anchor_in (now here)) list → TextOf (anchor_in (now here)) low → Named list →
      (name other : List ℕ) → IsText name → IsText other → below name low ≡ false → below other low ≡ false →
      (target_from here list (key_of other) == target_from here list (key_of name)) ≡ is_between (target_of (low ∷ texts list) name) (next_of (low ∷ texts list) name) other
  ranges here low [] chain rise tl named name other tn to from from' =
      let t = here-target low [] name from tt in
      eq-eqb here here refl ∙ sym (ap (λ a. is_between a (next_of (low ∷ []) name) other) t.0 ∙ ap (λ h. is_between low h other) t.1 ∙ ap (λ b. not b && true) from')
  ranges here low (m ∷ behind) chain rise tl named name other tn to from from' =
      let t : List ℕ = text_of_key m.anchor in
      let tm : TextOf m.anchor t = text-of m named.0 in
      let rest : Anchors = texts behind in
      let ordered : shape.AnchorsRise (low ∷ t ∷ rest) = rise-texts (anchor_in (now here)) low (m ∷ behind) tl rise named in
      let by : (x : List ℕ) → IsText x → below x t ≡ nat_lt (key_of x) m.anchor = λ x tx. text-below (key_of x) m.anchor x t (record { is_text = tx; is = refl }) tm in
      let stays : (x : List ℕ) → IsText x → below x t ≡ true → target_from here (m ∷ behind) (key_of x) ≡ here =
      λ x tx is. ap (λ b. cond b (target_from m.node behind (key_of x)) here) (lt-leb m.anchor (key_of x) (ltb-true (key_of x) m.anchor (sym (by x tx) ∙ is))) in
      let goes : (x : List ℕ) → IsText x → below x t ≡ false → target_from here (m ∷ behind) (key_of x) ≡ target_from m.node behind (key_of x) =
      λ x tx isnt. ap (λ b. cond b (target_from m.node behind (key_of x)) here) (le-leb m.anchor (key_of x) (ltb-false (key_of x) m.anchor (sym (by x tx) ∙ isnt))) in
      ⊎_elim
      (λ (is : below name t ≡ true).
      let target = here-target low (t ∷ rest) name from (higher low t rest name is ordered) in
      let goal : Bool → Type 0 = λ b. (target_from here (m ∷ behind) (key_of other) == target_from here (m ∷ behind) (key_of name)) ≡ b in
      ap (λ k. target_from here (m ∷ behind) (key_of other) == k) (stays name tn is)
      ∙ ⊎_elim
      (λ (is' : below other t ≡ true).
      ap (λ k. k == here) (stays other to is') ∙ eq-eqb here here refl ∙ sym (ap (λ b. not b && below other t) from' ∙ is'))
      (λ (isnt' : below other t ≡ false).
      ap (λ k. k == here) (goes other to isnt') ∙ ne_eqb (target_from m.node behind (key_of other)) here (λ e. member-or-here here m behind chain rise (key_of other) (sym e))
      ∙ sym (ap (λ b. not (below other low) && b) isnt' ∙ and_false (not (below other low))))
      (true_or_false (below other t))
      ∙ sym (ap (λ a. is_between a (next_of (low ∷ t ∷ rest) name) other) target.0 ∙ ap (λ h. is_between low h other) target.1))
      (λ (isnt : below name t ≡ false).
      let target = later-target low t rest name from isnt in
      ap (λ k. target_from here (m ∷ behind) (key_of other) == k) (goes name tn isnt)
      ∙ ⊎_elim
      (λ (is' : below other t ≡ true).
      ap (λ k. k == target_from m.node behind (key_of name)) (stays other to is')
      ∙ ne_eqb here (target_from m.node behind (key_of name)) (member-or-here here m behind chain rise (key_of name))
      ∙ sym (ap (λ b. not b && shape.is_under (next_of (t ∷ rest) name) other) (below-upto other t (target_of (t ∷ rest) name) is' (target-from-first t rest name ordered.1 isnt))))
      (λ (isnt' : below other t ≡ false).
      ap (λ k. k == target_from m.node behind (key_of name)) (goes other to isnt')
      ∙ ranges m.node t behind chain.3 (rise_at now m behind chain.2 rise.1) (subst (λ k. TextOf k t) (sym chain.2) tm) named.1 name other tn to isnt isnt')
      (true_or_false (below other t))
      ∙ sym (ap (λ a. is_between a (next_of (low ∷ t ∷ rest) name) other) target.0 ∙ ap (λ h. is_between (target_of (t ∷ rest) name) h other) target.1))
      (true_or_false (below name t))

pub ranges_are_members : RangesAreMembers
ranges_are_members l f n name other list named other_named inside =
    let is : target_from 0 f.list (key_of name) ≡ n = eqb-true (target_from 0 f.list (key_of name)) n inside in
    ap (λ k. target_from 0 f.list (key_of other) == k) (sym is)
    ∙ ranges f.now 0 [] f.list list.chain (rise_from l f list) (subst (λ k. TextOf k []) (sym list.lowest) empty-of) list.named name other (named-text name named) (named-text other other_named) (empty_first name) (empty_first other)
