-- The switch of a merge drops a member, in the words of anchors.
use Rattle.std.proofs.Common.{◌≡◌, ◌≢◌, ℕ, ◌+◌, ◌/◌, ◌≤◌, ◌⊎◌, inl, inr, ⊎_elim, Bool, true, false, cond, not, ◌&&◌, ◌||◌, nat_lt, nat_le, Option, Some, None, List, [], ◌∷◌, ◌++◌, length, slice_get, unwrap_or, refl, sym, ap, ◌∙◌, subst, arith, le-leb, ltb-true, ltb-false, eq-eqb, ne_eqb, eqb-true, length-append}
use Rattle.std.proofs.lemmas.Bool.{lt-leb, cases_eq}
use Rattle.std.specs.FinMap.{keys}
use Rattle.std.specs.List.{last_or, AllByRecursion}
use Rattle.pm_words.specs.declared.layout.Layout.{Layout}
use Rattle.pm_words.specs.Offsets.{next_offset}
use Rattle.cat_key.specs.Names.{IsName}
use Rattle.cat_history.specs.Maps.{Map, at}
use Rattle.shapes.specs.Anchors.{below, Anchors, AreAnchors, is_under, is_between, names_between, up_to, past, target_of, next_of}
use Rattle.shapes.specs.Anchors as shape
use Rattle.shapes.specs.Members.{without_name}
use Rattle.shapes.proofs.Orders.{same, true_or_false, not_itself, not_back, upto-chain, below-chain, same-itself, below-differs, above-differs, empty_first}
use Rattle.shapes.proofs.NameLists.{all_by, filter-keeps, filter-drops, filter-all, filter-none, filter-alike}
use Rattle.shapes.proofs.Targets.{Parted, part, target-is, next-is, rise-second, names-joined}
use Rattle.data_node.specs.Spots.{Spot, Means}
use Rattle.data_node.specs.Weights.{names_in}
use Rattle.data_node.specs.Lists.{ListNode, anchor_in, key_of, target_from, IsMember, IsChain, Rise, without_member}
use Rattle.data_node.proofs.RangeNames.{range_names}
use Rattle.call_stages.specs.Stages.{Gathered}
use Rattle.index_law.specs.Facts.{Facts, map_now, range_of, IsListed}
use Rattle.index_law.specs.Worlds.{facts, stepped}
use Rattle.index_law.specs.Lawful.{IsList, SureJoins, Sure}
use Rattle.index_law.specs.Shapes.{IsMerged}
use Rattle.index_law.specs.Anchors.{text_of_key, anchors_of, DropsMember, StepMovesAnchors}
use Rattle.index_law.proofs.AnchorTexts.{IsText, named-text, key-back}
use Rattle.index_law.proofs.Anchored.{Named, texts, TextOf, text-of, empty-of, text-below, rise-texts, list_has_anchors, ranges_are_members, here-target, later-target, higher}
use Rattle.index_law.proofs.Cutting.{all-named, below-empty, range-names, cuts_member}
use Rattle.data_node.proofs.ListLemmas.{rise_at}
use Rattle.index_law.proofs.Past.{right_anchor, anchor_inside}
use Rattle.index_law.proofs.Shapes.{step_shapes}
use Rattle.index_law.proofs.Switch.{rise_from}

-- ---- two neighbours among anchors

-- an anchor is its own target
past-next : (bs : Anchors) (low h : List ℕ) (rest : Anchors) → shape.AnchorsRise (bs ++ low ∷ h ∷ rest) → past (bs ++ low ∷ h ∷ rest) h ≡ rest
past-next [] low h rest rise =
    filter-drops (λ a. below h a) low (h ∷ rest) (not_back low h rise.0.0) ∙ filter-drops (λ a. below h a) h rest (not_itself h) ∙ filter-all (λ a. below h a) rest rise.1.0
past-next (b ∷ bs) low h rest rise = filter-drops (λ a. below h a) b (bs ++ low ∷ h ∷ rest) (not_back b h (last-below bs rise.0)) ∙ past-next bs low h rest rise.1
  where
    last-below : (xs : Anchors) → AllByRecursion (λ a. below b a ≡ true) (xs ++ low ∷ h ∷ rest) → below b h ≡ true
    last-below [] all = all.1.0
    last-below (x ∷ xs) all = last-below xs all.1

up-next : (bs : Anchors) (low h : List ℕ) (rest : Anchors) → shape.AnchorsRise (bs ++ low ∷ h ∷ rest) → up_to (bs ++ low ∷ h ∷ rest) h ≡ bs ++ low ∷ h ∷ []
up-next [] low h rest rise =
    filter-keeps (λ a. not (below h a)) low (h ∷ rest) (ap not (not_back low h rise.0.0))
    ∙ ap (λ xs. low ∷ xs) (filter-keeps (λ a. not (below h a)) h rest (ap not (not_itself h))
    ∙ ap (λ xs. h ∷ xs) (filter-none (λ a. not (below h a)) rest (all_by (λ a. below h a ≡ true) (λ a. not (below h a) ≡ false) (λ a is. ap not is) rest rise.1.0)))
up-next (b ∷ bs) low h rest rise =
    filter-keeps (λ a. not (below h a)) b (bs ++ low ∷ h ∷ rest) (ap not (not_back b h (last-below bs rise.0))) ∙ ap (λ xs. b ∷ xs) (up-next bs low h rest rise.1)
  where
    last-below : (xs : Anchors) → AllByRecursion (λ a. below b a ≡ true) (xs ++ low ∷ h ∷ rest) → below b h ≡ true
    last-below [] all = all.1.0
    last-below (x ∷ xs) all = last-below xs all.1

last-two : (o : Option (List ℕ)) (bs : Anchors) (low h : List ℕ) → last_or o (bs ++ low ∷ h ∷ []) ≡ Some h
last-two o [] low h = refl
last-two o (b ∷ bs) low h = last-two (Some b) bs low h

under-chain : (high : Option (List ℕ)) (x h : List ℕ) → below x h ≡ true → is_under high h ≡ true → is_under high x ≡ true
under-chain None x h is under = refl
under-chain (Some g) x h is under = below-chain x h g is under

-- what is in one of two parts is in both together
joined : (low h : List ℕ) (high : Option (List ℕ)) (x : List ℕ) → below low h ≡ true → is_under high h ≡ true → (is_between low (Some h) x || is_between h high x) ≡ is_between low high x
joined low h high x lower under =
    ⊎_elim
    (λ (is : below x h ≡ true).
    let up : is_under high x ≡ true = under-chain high x h is under in
    (λ i. (not (below x low) && is i) || (not (is i) && up i)) ∙ first (not (below x low)) ∙ ap (λ c. not (below x low) && c) (sym up))
    (λ (isnt : below x h ≡ false).
    let above : below x low ≡ false = upto-chain low h x (not_back low h lower) isnt in
    (λ i. (not (above i) && isnt i) || (not (isnt i) && is_under high x)) ∙ ap (λ b. not b && is_under high x) (sym above))
    (true_or_false (below x h))
  where
    first : (b : Bool) → ((b && true) || (not true && true)) ≡ (b && true)
    first true = refl
    first false = refl

first-above : (h : List ℕ) (rest : Anchors) → AllByRecursion (λ a. below h a ≡ true) rest → is_under (slice_get rest 0) h ≡ true
first-above h [] all = refl
first-above h (g ∷ rest) all = all.0

-- The next anchor is its own target, which ends where the second next anchor is.
pub record Neighbour (anchors : Anchors) (name next : List ℕ) : Type 0 where
  pub own : target_of anchors next ≡ next
  pub on : next_of anchors next ≡ slice_get (past anchors name) 1
  pub above : below (target_of anchors name) next ≡ true
  pub under : is_under (slice_get (past anchors name) 1) next ≡ true

pub neighbour : (anchors : Anchors) (name next : List ℕ) → AreAnchors anchors → next_of anchors name ≡ Some next → Neighbour anchors name next
neighbour anchors name next are here =
    let p = part anchors name are in
    by-after p.after p refl (sym (next-is anchors name p) ∙ here)
  where
    by-after : (after : Anchors) (p : Parted anchors name) → p.after ≡ after → slice_get after 0 ≡ Some next → Neighbour anchors name next
    by-after [] p is_after first = absurd (let wrong : None ≡ Some next = first in cc)
    by-after (h ∷ rest) p is_after first =
        let e : h ≡ next = ap (λ o. unwrap_or o h) first in
        let whole : anchors ≡ p.before ++ p.low ∷ h ∷ rest = p.is ∙ ap (λ xs. p.before ++ p.low ∷ xs) is_after in
        let rise : shape.AnchorsRise (p.before ++ p.low ∷ h ∷ rest) = subst shape.AnchorsRise whole are.rise in
        let tail : shape.AnchorsRise (p.low ∷ h ∷ rest) = rise-second p.before (p.low ∷ h ∷ rest) rise in
        let second : slice_get (past anchors name) 1 ≡ slice_get rest 0 = ap (λ xs. slice_get xs 1) (p.past_is ∙ is_after) in
        record {
          own = (λ i. target_of (whole i) (sym e i)) ∙ ap (λ xs. unwrap_or (last_or None xs) []) (up-next p.before p.low h rest rise)
              ∙ ap (λ o. unwrap_or o []) (last-two None p.before p.low h) ∙ e;
          on = (λ i. next_of (whole i) (sym e i)) ∙ ap (λ xs. slice_get xs 0) (past-next p.before p.low h rest rise) ∙ sym second;
          above = (λ i. below (target-is anchors name p i) (sym e i)) ∙ tail.0.0;
          under = (λ i. is_under (second i) (sym e i)) ∙ first-above h rest tail.1.0;
        }

-- ---- the member after that of a name

-- a member's text has what all texts have
among-text : (P : List ℕ → Type 0) (now : ℕ → Spot) (here : ℕ) (list : List ListNode) → IsChain now here list → (r : ℕ) → IsMember list r → AllByRecursion P (texts list) →
    P (text_of_key (anchor_in (now r)))
among-text P now here [] chain r among all = absurd among
among-text P now here (m ∷ behind) chain r (inl e) all = subst (λ k. P (text_of_key k)) (sym (ap (λ k. anchor_in (now k)) e ∙ chain.2)) all.0
among-text P now here (m ∷ behind) chain r (inr later) all = among-text P now m.node behind chain.3 r later all.1

-- one member less is its text less among the anchors
drop-texts : (now : ℕ → Spot) (here least : ℕ) (list : List ListNode) → IsChain now here list → Rise least list → Named list → (r : ℕ) → IsMember list r →
    texts (without_member r list) ≡ without_name (text_of_key (anchor_in (now r))) (texts list)
drop-texts now here least [] chain rise named r among = absurd among
drop-texts now here least (m ∷ behind) chain rise named r among =
    let t : List ℕ = text_of_key m.anchor in
    let ordered : shape.AnchorsRise (t ∷ texts behind) = rise-texts m.anchor t behind (text-of m named.0) rise.1 named.1 in
    ⊎_elim
    (λ (e : m.node ≡ r).
    let key : anchor_in (now r) ≡ m.anchor = ap (λ k. anchor_in (now k)) (sym e) ∙ chain.2 in
    ap (λ b. texts (cond b behind (m ∷ without_member r behind))) (eq-eqb m.node r e)
    ∙ sym (ap (λ k. without_name (text_of_key k) (t ∷ texts behind)) key ∙ filter-drops (λ a. not (same t a)) t (texts behind) (ap not (same-itself t))
    ∙ filter-all (λ a. not (same t a)) (texts behind) (all_by (λ a. below t a ≡ true) (λ a. not (same t a) ≡ true) (λ a is. ap not (below-differs t a is)) (texts behind) ordered.0)))
    (λ (other : m.node ≢ r).
    let later : IsMember behind r = ⊎_elim (λ (e : r ≡ m.node). absurd (other (sym e))) (λ is. is) among in
    let above : below t (text_of_key (anchor_in (now r))) ≡ true = among-text (λ a. below t a ≡ true) now m.node behind chain.3 r later ordered.0 in
    ap (λ b. texts (cond b behind (m ∷ without_member r behind))) (ne_eqb m.node r other)
    ∙ ap (λ xs. t ∷ xs) (drop-texts now m.node m.anchor behind chain.3 rise.1 named.1 r later)
    ∙ sym (filter-keeps (λ a. not (same (text_of_key (anchor_in (now r))) a)) t (texts behind) (ap not (above-differs (text_of_key (anchor_in (now r))) t above))))
    (cases_eq m.node r)

-- a name below the next anchor has its target here, and another one behind
here_or_on : (here : ℕ) (m : ListNode) (behind : List ListNode) (name : List ℕ) → IsText name → TextOf m.anchor (text_of_key m.anchor)
    → ((below name (text_of_key m.anchor) ≡ true) × (target_from here (m ∷ behind) (key_of name) ≡ here))
    ⊎ ((below name (text_of_key m.anchor) ≡ false) × (target_from here (m ∷ behind) (key_of name) ≡ target_from m.node behind (key_of name)))
here_or_on here m behind name tn tm =
    let t : List ℕ = text_of_key m.anchor in
    let by : below name t ≡ nat_lt (key_of name) m.anchor = text-below (key_of name) m.anchor name t (record { is_text = tn; is = refl }) tm in
    let split : (b : Bool) → nat_le m.anchor (key_of name) ≡ b → target_from here (m ∷ behind) (key_of name) ≡ cond b (target_from m.node behind (key_of name)) here =
    λ b e. ap (λ c. cond c (target_from m.node behind (key_of name)) here) e in
    ⊎_elim
    (λ (under : below name t ≡ true). inl (under, split false (lt-leb m.anchor (key_of name) (ltb-true (key_of name) m.anchor (sym by ∙ under)))))
    (λ (isnt : below name t ≡ false). inr (isnt, split true (le-leb m.anchor (key_of name) (ltb-false (key_of name) m.anchor (sym by ∙ isnt)))))
    (true_or_false (below name t))

-- where the target leads, the next anchor is
next-text : (now : ℕ → Spot) (here : ℕ) (low : List ℕ) (list : List ListNode) → IsChain now here list → Rise (anchor_in (now here)) list → TextOf (anchor_in (now here)) low → Named list →
    (name : List ℕ) → IsText name → below name low ≡ false → (n r : ℕ) → target_from here list (key_of name) ≡ n → now n next_offset ≡ r → r ≢ 0 →
    next_of (low ∷ texts list) name ≡ Some (text_of_key (anchor_in (now r)))
next-text now here low [] chain rise tl named name tn from n r is leads some = absurd (some (sym leads ∙ ap (λ k. now k next_offset) (sym is) ∙ chain))
next-text now here low (m ∷ behind) chain rise tl named name tn from n r is leads some =
    let t : List ℕ = text_of_key m.anchor in
    let tm : TextOf m.anchor t = text-of m named.0 in
    let ordered : shape.AnchorsRise (low ∷ t ∷ texts behind) = rise-texts (anchor_in (now here)) low (m ∷ behind) tl rise named in
    ⊎_elim
    (λ (under : (below name t ≡ true) × (target_from here (m ∷ behind) (key_of name) ≡ here)).
    let stays : here ≡ n = sym under.1 ∙ is in
    let e : r ≡ m.node = sym leads ∙ ap (λ k. now k next_offset) (sym stays) ∙ chain.0 in
    (here-target low (t ∷ texts behind) name from (higher low t (texts behind) name under.0 ordered)).1
    ∙ ap (λ k. Some (text_of_key k)) (sym (ap (λ k. anchor_in (now k)) e ∙ chain.2)))
    (λ (isnt : (below name t ≡ false) × (target_from here (m ∷ behind) (key_of name) ≡ target_from m.node behind (key_of name))).
    let goes : target_from m.node behind (key_of name) ≡ n = sym isnt.1 ∙ is in
    (later-target low t (texts behind) name from isnt.0).1
    ∙ next-text now m.node t behind chain.3 (rise_at now m behind chain.2 rise.1) (subst (λ k. TextOf k t) (sym chain.2) tm) named.1 name tn isnt.0 n r goes leads some)
    (here_or_on here m behind name tn tm)

-- where the target leads nowhere, there is no next anchor
next-none : (now : ℕ → Spot) (here : ℕ) (low : List ℕ) (list : List ListNode) → IsChain now here list → Rise (anchor_in (now here)) list → TextOf (anchor_in (now here)) low → Named list →
    (name : List ℕ) → IsText name → below name low ≡ false → (n : ℕ) → target_from here list (key_of name) ≡ n → now n next_offset ≡ 0 → next_of (low ∷ texts list) name ≡ None
next-none now here low [] chain rise tl named name tn from n is ends = (here-target low [] name from tt).1
next-none now here low (m ∷ behind) chain rise tl named name tn from n is ends =
    let t : List ℕ = text_of_key m.anchor in
    let tm : TextOf m.anchor t = text-of m named.0 in
    ⊎_elim
    (λ (under : (below name t ≡ true) × (target_from here (m ∷ behind) (key_of name) ≡ here)).
    let stays : here ≡ n = sym under.1 ∙ is in
    absurd (chain.1 (sym chain.0 ∙ ap (λ k. now k next_offset) stays ∙ ends)))
    (λ (isnt : (below name t ≡ false) × (target_from here (m ∷ behind) (key_of name) ≡ target_from m.node behind (key_of name))).
    let goes : target_from m.node behind (key_of name) ≡ n = sym isnt.1 ∙ is in
    (later-target low t (texts behind) name from isnt.0).1
    ∙ next-none now m.node t behind chain.3 (rise_at now m behind chain.2 rise.1) (subst (λ k. TextOf k t) (sym chain.2) tm) named.1 name tn isnt.0 n goes ends)
    (here_or_on here m behind name tn tm)

pub no_next : (l : Layout) (f : Facts) → IsList l f → (name : List ℕ) → IsName name → (n : ℕ) → range_of l f n name ≡ true → f.now n next_offset ≡ 0 → next_of (anchors_of f.list) name ≡ None
no_next l f list name is_name n inside ends =
    next-none f.now 0 [] f.list list.chain (rise_from l f list) (subst (λ k. TextOf k []) (sym list.lowest) empty-of) list.named name (named-text name is_name) (empty_first name) n
    (eqb-true (target_from 0 f.list (key_of name)) n inside) ends

-- The node leads to this one, whose anchor is the next of the name.
pub record HasNext (l : Layout) (f : Facts) (name : List ℕ) (r : ℕ) : Type 0 where
  pub next : List ℕ
  pub named : IsName next
  pub owns : range_of l f r next ≡ true
  pub text : text_of_key (anchor_in (f.now r)) ≡ next
  pub is_next : next_of (anchors_of f.list) name ≡ Some next

pub has_next : (l : Layout) (f : Facts) → IsList l f → (name : List ℕ) → IsName name → (n r : ℕ) → range_of l f n name ≡ true → IsListed f n → f.now n next_offset ≡ r → r ≢ 0 →
    HasNext l f name r
has_next l f list name is_name n r inside listed leads nonzero =
    let anchor = right_anchor l f list n (f.now r next_offset) r listed leads nonzero refl in
    let text : text_of_key (anchor_in (f.now r)) ≡ anchor.0 = ap text_of_key anchor.2 ∙ key-back anchor.0 anchor.1 in
    record {
      next = anchor.0;
      named = anchor.1;
      owns = anchor_inside l f list n (f.now r next_offset) r listed leads nonzero refl anchor.0 anchor.1 anchor.2;
      text = text;
      is_next = next-text f.now 0 [] f.list list.chain (rise_from l f list) (subst (λ k. TextOf k []) (sym list.lowest) empty-of) list.named name (named-text name is_name) (empty_first name) n r
          (eqb-true (target_from 0 f.list (key_of name)) n inside) leads nonzero ∙ ap Some text;
    }

pub drops_member : (l : Layout) (f f' : Facts) → IsList l f → ((name : List ℕ) (value : ℕ) → at (map_now f) name ≡ Some value → IsName name) → (is : IsMerged l f f'.list) →
    (name : List ℕ) → IsName name → range_of l f is.node name ≡ true → (drop : DropsMember l f (anchors_of f'.list)) × (drop.node ≡ is.node) × (drop.name ≡ name)
drops_member l f f' list named is name is_name inside =
    let a : Anchors = anchors_of f.list in
    let m : Map = map_now f in
    let n = is.node in
    let r = is.right in
    let has = has_next l f list name is_name n r inside is.listed is.leads is.nonzero in
    let next : List ℕ = has.next in
    let among : IsMember f.list r = ⊎_elim (λ (first : r ≡ 0). absurd (is.nonzero first)) (λ later. later) is.listed_right in
    let beside = neighbour a name next (list_has_anchors l f list) has.is_next in
    let both : List ℕ → Bool = λ x. range_of l f n x || range_of l f r x in
    let alike : (x : List ℕ) → IsName x → both x ≡ is_between (target_of a name) (slice_get (past a name) 1) x = λ x nx.
    (λ i. ranges_are_members l f n name x list is_name nx inside i || ranges_are_members l f r next x list has.named nx has.owns i)
    ∙ (λ i. is_between (target_of a name) (has.is_next i) x || is_between (beside.own i) (beside.on i) x)
    ∙ joined (target_of a name) next (slice_get (past a name) 1) x beside.above beside.under in
    let names : names_in l.slots both (f.now n) ≡ length (names_between m (target_of a name) (slice_get (past a name) 1)) =
    range_names l.slots both (f.now n) m is.means named
    ∙ ap length (filter-alike both (is_between (target_of a name) (slice_get (past a name) 1)) (keys m)
    (all_by IsName (λ x. both x ≡ is_between (target_of a name) (slice_get (past a name) 1) x) alike (keys m) (all-named m named))) in (
      record {
        node = n;
        name = name;
        named = is_name;
        inside = inside;
        next = next;
        is_next = has.is_next;
        few = subst (λ k. k ≤ l.slots / 2) names is.together;
        less = ap anchors_of is.shorter
            ∙ ap (λ xs. [] ∷ xs) (drop-texts f.now 0 0 f.list list.chain list.rise list.named r among ∙ ap (λ t. without_name t (texts f.list)) has.text)
            ∙ sym (filter-keeps (λ x. not (same next x)) [] (texts f.list) (ap not (above-differs next [] (below-empty next has.named))));
      },
      refl,
      refl,
    )

-- the names of the two, where each means the map on its range
pub names_of_both : (l : Layout) (f : Facts) (list : IsList l f) → ((name : List ℕ) (value : ℕ) → at (map_now f) name ≡ Some value → IsName name) → (name : List ℕ) → IsName name → (n r : ℕ) →
    range_of l f n name ≡ true → HasNext l f name r → Means l.slots (range_of l f n) (f.now n) (map_now f) → Means l.slots (range_of l f r) (f.now r) (map_now f) →
    length (names_between (map_now f) (target_of (anchors_of f.list) name) (slice_get (past (anchors_of f.list) name) 1))
    ≡ names_in l.slots (range_of l f n) (f.now n) + names_in l.slots (range_of l f r) (f.now r)
names_of_both l f list named name is_name n r inside has means means_right =
    let a : Anchors = anchors_of f.list in
    let m : Map = map_now f in
    let next : List ℕ = has.next in
    let high : Option (List ℕ) = slice_get (past a name) 1 in
    let beside = neighbour a name next (list_has_anchors l f list) has.is_next in
    let own : names_in l.slots (range_of l f n) (f.now n) ≡ length (names_between m (target_of a name) (Some next)) =
    range_names l.slots (range_of l f n) (f.now n) m means named ∙ ap length (range-names l f list named n name is_name inside) ∙ ap (λ o. length (names_between m (target_of a name) o)) has.is_next in
    let other : names_in l.slots (range_of l f r) (f.now r) ≡ length (names_between m next high) =
    range_names l.slots (range_of l f r) (f.now r) m means_right named ∙ ap length (range-names l f list named r next has.named has.owns)
    ∙ (λ i. length (names_between m (beside.own i) (beside.on i))) in
    let whole = ap length (names-joined (target_of a name) next high (not_back (target_of a name) next beside.above) beside.under m) in
    let size = length-append (names_between m (target_of a name) (Some next)) (names_between m next high) in
    omega arith

pub step_moves_anchors : StepMovesAnchors
step_moves_anchors w i p a x t r lawful there k told =
    let l = w.layout in
    let f = facts w in
    let f' = facts (stepped w i p a t) in
    let slots : 4 ≤ l.slots = lawful.row.layout.slots.0 in
    ⊎_elim
    (λ stays. inl (ap anchors_of stays))
    (λ moved. inr (⊎_elim
    (λ cut. let done = cuts_member l f f' (omega arith) lawful.list lawful.named cut.1 in inl (cut.0, done.0, done.1 ∙ cut.2))
    (λ one.
    let join = one.0 in
    let knows : SureJoins l w.generation f p.caller p.index p.since join.held join.left join.right Gathered = subst (Sure l w.generation f p.caller p.index p.since) join.was (lawful.sure i p there) in
    let inside : range_of l f one.1.node join.held.name ≡ true = subst (λ n. range_of l f n join.held.name ≡ true) (sym one.2) knows.call.inside in
    let done = drops_member l f f' lawful.list lawful.named one.1 join.held.name knows.call.named inside in
    inr (join, done.0, done.1 ∙ one.2, done.2))
    moved))
    (step_shapes w i p a x t r lawful there k told)
