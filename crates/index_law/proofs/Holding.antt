-- An index whose listed nodes mean the map holds the shape, and weighs what it does.
use Rattle.std.proofs.Common.{◌≡◌, ◌≢◌, ℕ, zero, suc, ◌+◌, ◌*◌, ◌/◌, ◌≤◌, ◌⊎◌, inl, inr, ⊎_elim, Bool, true, false, cond, not, ◌&&◌, ◌==◌, nat_lt, Option, Some, None, List, [], ◌∷◌, length, refl, sym, ap, ◌∙◌, subst, arith, lt-ltb, ltb-true, ltb-false, le-leb, eq-eqb, ne_eqb, suc-mul}
use Rattle.std.proofs.lemmas.Bool.{lt-leb}
use Rattle.std.proofs.Math.Nat.{add-mul}
use Rattle.std.proofs.lemmas.List.{length-map}
use Rattle.std.specs.FinMap.{keys}
use Rattle.std.specs.List.{AllByRecursion}
use Rattle.pm_words.specs.Codes.{gone_status}
use Rattle.pm_words.specs.declared.layout.Layout.{Layout}
use Rattle.cat_key.specs.Names.{IsName}
use Rattle.cat_history.specs.Maps.{at}
use Rattle.shapes.specs.Anchors.{below, is_between, names_between}
use Rattle.shapes.specs.Members.{members}
use Rattle.shapes.specs.Members as shape
use Rattle.shapes.specs.Weights.{members_weight}
use Rattle.shapes.proofs.Orders.{true_or_false, clash, not_back, upto-chain, empty_first}
use Rattle.shapes.proofs.NameLists.{all_by, filter-alike}
use Rattle.data_node.specs.Spots.{Spot, Means}
use Rattle.data_node.specs.Weights.{has_name_in, names_in}
use Rattle.data_node.specs.Lists.{ListNode, anchor_in, key_of, target_from, IsMember, IsChain, Rise}
use Rattle.data_node.proofs.RangeNames.{range_names}
use Rattle.index_law.specs.Facts.{Facts, map_now, range_of, IsListed}
use Rattle.index_law.specs.Worlds.{facts}
use Rattle.data_node.specs.Weights.{total}
use Rattle.index_law.specs.Weights.{weight_at, gone_weight}
use Rattle.index_law.specs.Anchors.{text_of_key, gone_nodes, NodesHoldShape, IdleHasShape}
use Rattle.index_law.specs.LoneShapes.{NoFreeWeighs}
use Rattle.index_law.proofs.AnchorTexts.{named-text}
use Rattle.index_law.proofs.Anchored.{Named, texts, TextOf, text-of, empty-of, text-below, list_has_anchors, member-or-here, and_false}
use Rattle.index_law.proofs.Cutting.{all-named}
use Rattle.data_node.proofs.ListLemmas.{not_behind, rise_at, members_all}
use Rattle.index_law.proofs.Sizes.{nodes_are_counted}
use Rattle.index_law.proofs.Starts.{idle_law}
use Rattle.index_law.proofs.Switch.{rise_from}

names-most : (n : ℕ) (range : List ℕ → Bool) (s : Spot) → names_in n range s ≤ n
names-most zero range s = omega arith
names-most (suc n) range s =
    let rest = names-most n range s in
    elim (has_name_in range s n) as (λ b. cond b 1 0 + names_in n range s ≤ suc n) [
      | true ↦ omega arith
      | false ↦ omega arith
    ]

-- What a part of the list comes to: it weighs what its members do, and they fit.
record Holds (l : Layout) (f : Facts) (here : ℕ) (low : List ℕ) (list : List ListNode) : Type 0 where
  pub weighs : total (weight_at l f) here list ≡ members_weight l.slots (members (map_now f) (low ∷ texts list))
  pub fits : AllByRecursion (λ (m : shape.Member). length m.names ≤ l.slots) (members (map_now f) (low ∷ texts list))

module _ (l : Layout) (f : Facts) (named : (name : List ℕ) (value : ℕ) → at (map_now f) name ≡ Some value → IsName name)
    (means : (n : ℕ) → IsListed f n → Means l.slots (range_of l f n) (f.now n) (map_now f)) where
  one-node : (here : ℕ) (low : List ℕ) (high : Option (List ℕ)) → IsListed f here → ((x : List ℕ) → IsName x → range_of l f here x ≡ is_between low high x) →
      names_in l.slots (range_of l f here) (f.now here) ≡ length (names_between (map_now f) low high)
  one-node here low high listed alike =
      range_names l.slots (range_of l f here) (f.now here) (map_now f) (means here listed) named
      ∙ ap length (filter-alike (range_of l f here) (is_between low high) (keys (map_now f))
      (all_by IsName (λ x. range_of l f here x ≡ is_between low high x) alike (keys (map_now f)) (all-named (map_now f) named)))

  holds : (here : ℕ) (low : List ℕ) (list : List ListNode) → IsChain f.now here list → Rise (anchor_in (f.now here)) list → TextOf (anchor_in (f.now here)) low → Named list →
      ((n : ℕ) → (n ≡ here) ⊎ IsMember list n → IsListed f n) →
      ((x : List ℕ) → IsName x → below x low ≡ false → target_from 0 f.list (key_of x) ≡ target_from here list (key_of x)) →
      ((x : List ℕ) → IsName x → below x low ≡ true → (n : ℕ) → (n ≡ here) ⊎ IsMember list n → target_from 0 f.list (key_of x) ≢ n) → Holds l f here low list
  holds here low [] chain rise tl anchored listed from before =
      let same = one-node here low None (listed here (inl refl)) (λ x nx.
      ⊎_elim
      (λ (is : below x low ≡ true). ne_eqb (target_from 0 f.list (key_of x)) here (before x nx is here (inl refl)) ∙ sym (ap (λ b. not b && true) is))
      (λ (isnt : below x low ≡ false). eq-eqb (target_from 0 f.list (key_of x)) here (from x nx isnt) ∙ sym (ap (λ b. not b && true) isnt))
      (true_or_false (below x low))) in
      let most = names-most l.slots (range_of l f here) (f.now here) in
      record { weighs = omega arith; fits = (omega arith, tt) }
  holds here low (m ∷ behind) chain rise tl anchored listed from before =
      let t : List ℕ = text_of_key m.anchor in
      let tm : TextOf m.anchor t = text-of m anchored.0 in
      let above : below low t ≡ true = text-below (anchor_in (f.now here)) m.anchor low t tl tm ∙ lt-ltb (anchor_in (f.now here)) m.anchor rise.0 in
      let by : (x : List ℕ) → IsName x → below x t ≡ nat_lt (key_of x) m.anchor = λ x nx. text-below (key_of x) m.anchor x t (record { is_text = named-text x nx; is = refl }) tm in
      let stays : (x : List ℕ) → IsName x → below x t ≡ true → target_from here (m ∷ behind) (key_of x) ≡ here =
      λ x nx is. ap (λ b. cond b (target_from m.node behind (key_of x)) here) (lt-leb m.anchor (key_of x) (ltb-true (key_of x) m.anchor (sym (by x nx) ∙ is))) in
      let goes : (x : List ℕ) → IsName x → below x t ≡ false → target_from here (m ∷ behind) (key_of x) ≡ target_from m.node behind (key_of x) =
      λ x nx isnt. ap (λ b. cond b (target_from m.node behind (key_of x)) here) (le-leb m.anchor (key_of x) (ltb-false (key_of x) m.anchor (sym (by x nx) ∙ isnt))) in
      let same = one-node here low (Some t) (listed here (inl refl)) (λ x nx.
      ⊎_elim
      (λ (is : below x low ≡ true). ne_eqb (target_from 0 f.list (key_of x)) here (before x nx is here (inl refl)) ∙ sym (ap (λ b. not b && below x t) is))
      (λ (isnt : below x low ≡ false).
      ap (λ k. k == here) (from x nx isnt)
      ∙ ⊎_elim
      (λ (is' : below x t ≡ true). eq-eqb (target_from here (m ∷ behind) (key_of x)) here (stays x nx is') ∙ sym (ap (λ b. not b && below x t) isnt ∙ is'))
      (λ (isnt' : below x t ≡ false).
      ap (λ k. k == here) (goes x nx isnt') ∙ ne_eqb (target_from m.node behind (key_of x)) here (λ e. member-or-here f.now here m behind chain rise (key_of x) (sym e))
      ∙ sym (ap (λ b. not (below x low) && b) isnt' ∙ and_false (not (below x low))))
      (true_or_false (below x t)))
      (true_or_false (below x low))) in
      let most = names-most l.slots (range_of l f here) (f.now here) in
      let rest = holds m.node t behind chain.3 (rise_at f.now m behind chain.2 rise.1) (subst (λ k. TextOf k t) (sym chain.2) tm) anchored.1
      (λ n is. listed n (inr is))
      (λ x nx isnt. from x nx (upto-chain low t x (not_back low t above) isnt) ∙ goes x nx isnt)
      (λ x nx is n among e.
      ⊎_elim
      (λ (low_is : below x low ≡ true). before x nx low_is n (inr among) e)
      (λ (low_isnt : below x low ≡ false).
      not_behind f.now here (m ∷ behind) chain rise (subst (IsMember (m ∷ behind)) (sym e ∙ from x nx low_isnt ∙ stays x nx is) among))
      (true_or_false (below x low))) in
      let others = rest.weighs in
      record { weighs = omega arith; fits = (omega arith, rest.fits) }

-- what GONE nodes weigh, by their number
gone-weigh : (half : ℕ) (n : ℕ) (f : Facts) → gone_weight half f.status n ≡ gone_nodes n f * half
gone-weigh half zero f = omega arith
gone-weigh half (suc n) f =
    let rest = gone-weigh half n f in
    elim (f.status n == gone_status) as (λ b. cond b half 0 + gone_weight half f.status n ≡ (cond b 1 0 + gone_nodes n f) * half) [
      | true ↦
          let more : suc (gone_nodes n f) * half ≡ gone_nodes n f * half + half = suc-mul (gone_nodes n f) half in
          let sum : half + gone_weight half f.status n ≡ suc (gone_nodes n f) * half = omega arith in
          let one : suc (gone_nodes n f) ≡ 1 + gone_nodes n f = omega arith in
          sum ∙ ap (λ k. k * half) one
      | false ↦
          let none : gone_nodes n f ≡ 0 + gone_nodes n f = omega arith in
          let left : 0 + gone_weight half f.status n ≡ gone_weight half f.status n = omega arith in
          left ∙ rest ∙ ap (λ k. k * half) none
    ]

pub nodes_hold_shape : NodesHoldShape
nodes_hold_shape l f some list named means =
    let all = holds l f named means 0 [] f.list list.chain (rise_from l f list) (subst (λ k. TextOf k []) (sym list.lowest) empty-of) list.named
    (λ n is. is) (λ x nx isnt. refl) (λ x nx is n among e. clash is (empty_first x)) in
    let size = length-map f.list (λ (m : ListNode). text_of_key m.anchor) in
    let few = members_all f.now 0 l.nodes f.list list.chain (rise_from l f list) some list.within in (
      record { ordered = list_has_anchors l f list; few = omega arith; fits = all.fits },
      (λ i. sym all.weighs i + sym (gone-weigh (l.slots / 2) l.nodes f) i),
    )

pub idle_has_shape : IdleHasShape
idle_has_shape w lawful idle =
    let rest = idle_law w lawful idle in
    let nodes : 1 ≤ w.layout.nodes = lawful.row.layout.nodes.0 in
    let all = nodes_hold_shape w.layout (facts w) (omega arith) lawful.list lawful.named (λ n listed. (rest.settled n listed).means) in
    let count = (nodes_are_counted w lawful).few in
    (record { ordered = all.0.ordered; few = omega arith; fits = all.0.fits }, all.1)

-- each listed node weighs half its slots at least
each-weighs : (l : Layout) (f : Facts) (here : ℕ) (list : List ListNode) → suc (length list) * (l.slots / 2) ≤ total (weight_at l f) here list
each-weighs l f here [] =
    let one : suc 0 * (l.slots / 2) ≡ 0 * (l.slots / 2) + l.slots / 2 = suc-mul 0 (l.slots / 2) in
    omega arith
each-weighs l f here (m ∷ behind) =
    let more : suc (suc (length behind)) * (l.slots / 2) ≡ suc (length behind) * (l.slots / 2) + l.slots / 2 = suc-mul (suc (length behind)) (l.slots / 2) in
    let rest = each-weighs l f m.node behind in
    omega arith

pub no_free_weighs : NoFreeWeighs
no_free_weighs w lawful each =
    let l = w.layout in
    let f = facts w in
    let half : ℕ = l.slots / 2 in
    let g : ℕ = gone_nodes l.nodes f in
    let k : ℕ = suc (length f.list) in
    let size = length-map f.list (λ (m : ListNode). text_of_key m.anchor) in
    let count = nodes_are_counted w lawful in
    let few = count.few in
    let all = count.all each in
    let both : l.nodes ≡ k + g = omega arith in
    let product : l.nodes * half ≡ k * half + g * half = ap (λ n. n * half) both ∙ add-mul k g half in
    let listed = each-weighs l f 0 f.list in
    let gone = gone-weigh (l.slots / 2) l.nodes f in
    omega arith
