-- The rules on the list: what a walk shows of them at the node that it came to.
use Rattle.std.proofs.Common.{◌≡◌, ◌≢◌, ℕ, zero, suc, ◌+◌, ◌<◌, ◌≤◌, ◌⊎◌, ◌↔◌, List, Some, None, inl, inr, refl, sym, ap, ◌∙◌, subst, arith}
use Rattle.std.specs.Prelude.{Bool, nat_lt, not, IsTrue}
use Rattle.std.proofs.lemmas.Bool.{cases_lt, lt-ltb, le-ltb, false≢true}
use Rattle.pm_words.specs.declared.layout.Layout.{Layout}
use Rattle.pm_words.specs.Locations.{Word, Node, word_number}
use Rattle.pm_words.specs.Offsets.{next_offset, anchor_offset}
use Rattle.cat_key.specs.Names.{AreNameWords}
use Rattle.data_node.specs.Spots.{Spot}
use Rattle.data_node.specs.Lists.{anchor_in, anchor_words}
use Rattle.data_node.proofs.PositionLemmas.{position_in, in_position, position_bound, position_end}
use Rattle.image_rules.specs.Lowest.{IsLowest, IsNumberOf, IsFirst}
use Rattle.image_rules.specs.Nodes.{image_spot, image_list, IsListedAt, LeadWithin, next_in}
use Rattle.image_rules.specs.Rules.{LeadsOut, LeadsBack, IsMisplaced, BreaksAnchors, BreaksInNode}
use Rattle.image_rules.specs.Sound.{leads_out, AreKept}
use Rattle.image_rules.specs.declared.listed.NodeRule.{NodeRule}
use Rattle.image_rules.specs.declared.node_set.NodeSet.{NodeSet}
use Rattle.image_rules.specs.NodeSets.{HasNode, AreListed}
use Rattle.image_rules.proofs.WalkLemmas.{IsOfList, Walks, none_more, one_word, same_node, walk_inside, walk_on}

-- each rule is broken at positions of the list alone
pub out_listed : (l : Layout) (image : List ℕ) → IsOfList l image (LeadsOut l image)
out_listed l image = record { listed = λ position w out. (out.node, out.listed) }

pub back_listed : (l : Layout) (image : List ℕ) → IsOfList l image (LeadsBack l image)
back_listed l image = record { listed = λ position w back. (back.node, back.listed) }

anchor_listed : (l : Layout) (image : List ℕ) (position : ℕ) (w : Word) → BreaksAnchors l image position w → (n : ℕ) × IsListedAt l image position n
anchor_listed l image zero w breaks = (0, refl)
anchor_listed l image (suc position) w breaks = (breaks.node, breaks.listed)

pub anchors_listed : (l : Layout) (image : List ℕ) → IsOfList l image (BreaksAnchors l image)
anchors_listed l image = record { listed = anchor_listed l image }

pub in_node_listed : (l : Layout) (image : List ℕ) (rule : NodeRule) → IsOfList l image (BreaksInNode l image rule)
in_node_listed l image rule = record { listed = λ position w breaks. (breaks.node, breaks.listed) }

-- what a walk shows at the node that it came to
module _ {l : Layout} {image : List ℕ} {P : ℕ → Word → Type 0} {position node : ℕ} (walks : Walks l image P position node) (within : position ≤ l.nodes) where
  is_here : (other : ℕ) → IsListedAt l image position other → other ≡ node
  is_here other listed = same_node l image position other node listed (walks.at within)

  -- a node that leads to one of the image's keeps rule 3, and one that leads on elsewhere breaks it
  pub out_kept : (next_in l image node ≡ 0) ⊎ (next_in l image node < l.nodes) → (w : Word) → ¬ LeadsOut l image position w
  out_kept kept w out =
      let same = ap (next_in l image) (is_here out.node out.listed) in
      elim kept as (λ _. ⊥) [
        | inl none ↦ out.leads (same ∙ none)
        | inr inside ↦ let past = out.out in omega arith
      ]

  pub out_found : (number : ℕ) → number ≡ word_number l (Node node next_offset) → next_in l image node ≢ 0 → l.nodes ≤ next_in l image node
      → IsLowest (IsNumberOf l (LeadsOut l image position)) (Some number)
  out_found number is leads out = one_word l (LeadsOut l image position) (Node node next_offset) number is
      (record { node = node; listed = walks.at within; here = refl; leads = leads; out = out })
      (λ w other. other.here ∙ ap (λ n. Node n next_offset) (is_here other.node other.listed))

  -- likewise rule 4
  pub back_kept : (next_in l image node ≡ 0) ⊎ ((earlier : ℕ) → earlier ≤ position → IsListedAt l image earlier (next_in l image node) → ⊥) → (w : Word) → ¬ LeadsBack l image position w
  back_kept kept w back =
      let same = ap (next_in l image) (is_here back.node back.listed) in
      elim kept as (λ _. ⊥) [
        | inl none ↦ back.leads (same ∙ none)
        | inr new ↦ new back.earlier back.before (subst (IsListedAt l image back.earlier) same back.again)
      ]

  pub back_found : (number earlier : ℕ) → number ≡ word_number l (Node node next_offset) → next_in l image node ≢ 0 → earlier ≤ position
      → IsListedAt l image earlier (next_in l image node) → IsLowest (IsNumberOf l (LeadsBack l image position)) (Some number)
  back_found number earlier is leads before again = one_word l (LeadsBack l image position) (Node node next_offset) number is
      (record { node = node; listed = walks.at within; here = refl; leads = leads; earlier = earlier; before = before; again = again })
      (λ w other. other.here ∙ ap (λ n. Node n next_offset) (is_here other.node other.listed))

  -- and rule 5 at the node behind it
  module _ (next : ℕ) (behind : Walks l image P (position + 1) next) (more : position + 1 ≤ l.nodes) where
    next_one : position + 1 ≡ suc position
    next_one = omega arith

    is_behind : (other : ℕ) → IsListedAt l image (suc position) other → other ≡ next
    is_behind other listed = same_node l image (suc position) other next listed (subst (λ k. IsListedAt l image k next) next_one (behind.at more))

    pub anchor_kept : ¬ ((¬ AreNameWords (anchor_words (image_spot l image next))) ⊎ (anchor_in (image_spot l image next) ≤ anchor_in (image_spot l image node)))
        → (w : Word) → ¬ BreaksAnchors l image (position + 1) w
    anchor_kept right w wrong =
        let is : IsMisplaced l image position w = subst (λ k. BreaksAnchors l image k w) next_one wrong in
        let before = is_here is.before is.listed_before in
        let here = is_behind is.node is.listed in
        right (subst (λ k. (¬ AreNameWords (anchor_words (image_spot l image next))) ⊎ (anchor_in (image_spot l image next) ≤ anchor_in (image_spot l image k))) before
        (subst (λ k. (¬ AreNameWords (anchor_words (image_spot l image k))) ⊎ (anchor_in (image_spot l image k) ≤ anchor_in (image_spot l image is.before))) here is.wrong))

    pub anchor_found : (number : ℕ) → number ≡ word_number l (Node next anchor_offset)
        → ((¬ AreNameWords (anchor_words (image_spot l image next))) ⊎ (anchor_in (image_spot l image next) ≤ anchor_in (image_spot l image node)))
        → IsLowest (IsNumberOf l (BreaksAnchors l image (position + 1))) (Some number)
    anchor_found number is wrong =
        subst (λ k. IsLowest (IsNumberOf l (BreaksAnchors l image k)) (Some number)) (sym next_one)
        (one_word l (IsMisplaced l image position) (Node next anchor_offset) number is
        (record { before = node; node = next; listed_before = walks.at within; listed = subst (λ k. IsListedAt l image k next) next_one (behind.at more); here = refl; wrong = wrong })
        (λ w other. other.here ∙ ap (λ n. Node n anchor_offset) (is_behind other.node other.listed)))

-- node 0's own anchor
pub first_anchor_kept : (l : Layout) (image : List ℕ) → anchor_in (image_spot l image 0) ≡ 0 → (w : Word) → ¬ BreaksAnchors l image 0 w
first_anchor_kept l image none w wrong = wrong.1 none

pub first_anchor_found : (l : Layout) (image : List ℕ) (number : ℕ) → number ≡ word_number l (Node 0 anchor_offset) → anchor_in (image_spot l image 0) ≢ 0
    → IsLowest (IsNumberOf l (BreaksAnchors l image 0)) (Some number)
first_anchor_found l image number is wrong = one_word l (BreaksAnchors l image 0) (Node 0 anchor_offset) number is (refl, wrong) (λ w other. other.0)

-- where rule 3 is kept, each node leads to one of the image's
pub lead_within : (l : Layout) (image : List ℕ) (rule : ℕ) → 3 < rule → AreKept l image rule → LeadWithin l image
lead_within l image rule behind kept position n at leads =
    elim (cases_lt (next_in l image n) l.nodes) as (λ _. next_in l image n < l.nodes) [
      | inl inside ↦ inside
      | inr out ↦ absurd (kept 3 position (Node n next_offset) behind (leads_out (record { node = n; listed = at; here = refl; leads = leads; out = out })))
    ]

-- an anchor with a name's words is out of order where it isn't above the other
pub misplaced_if : (s t : Spot) (below : Bool) → below ≡ nat_lt (anchor_in t) (anchor_in s) → AreNameWords (anchor_words s) →
    IsTrue (not below) ↔ ((¬ AreNameWords (anchor_words s)) ⊎ (anchor_in s ≤ anchor_in t))
misplaced_if s t below is named =
    elim (cases_lt (anchor_in t) (anchor_in s)) as (λ _. IsTrue (not below) ↔ ((¬ AreNameWords (anchor_words s)) ⊎ (anchor_in s ≤ anchor_in t))) [
      | inl above ↦ (
        λ yes. absurd (false≢true (sym (ap not (is ∙ lt-ltb (anchor_in t) (anchor_in s) above)) ∙ yes)),
        λ wrong. absurd (elim wrong as (λ _. ⊥) [ inl nameless ↦ nameless named | inr under ↦ omega arith ]),
      )
      | inr under ↦ (λ _. inr under, λ _. ap not (is ∙ le-ltb (anchor_in t) (anchor_in s) under))
    ]

-- A set has the nodes at the first so many positions, and no other.
pub record HasReached (l : Layout) (image : List ℕ) (set : NodeSet) (count : ℕ) : Type 0 where
  pub from : (n : ℕ) → HasNode set n → (position : ℕ) × (position < count) × IsListedAt l image position n
  pub to : (position n : ℕ) → position < count → IsListedAt l image position n → HasNode set n

pub reached_none : (l : Layout) (image : List ℕ) (set : NodeSet) → ((n : ℕ) → HasNode set n → ⊥) → HasReached l image set 0
reached_none l image set empty = record { from = λ n has. absurd (empty n has); to = λ position n below at. omega (arith, below) }

pub reached_more : {l : Layout} {image : List ℕ} {P : ℕ → Word → Type 0} {position node : ℕ} {set : NodeSet} (more : NodeSet) → Walks l image P position node → position ≤ l.nodes
    → ((other : ℕ) → HasNode more other ↔ ((other ≡ node) ⊎ HasNode set other)) → HasReached l image set position → HasReached l image more (position + 1)
reached_more {l} {image} {P} {position} {node} {set} more walks within with_node reached =
    let at = walks.at within in
    record {
      from = λ n has. elim ((with_node n).0 has) as (λ _. (k : ℕ) × (k < position + 1) × IsListedAt l image k n) [
        | inl same ↦ (position, omega arith, subst (IsListedAt l image position) (sym same) at)
        | inr before ↦ let there = reached.from n before in let below = there.1 in (there.0, omega arith, there.2)
      ];
      to = λ other n below there. elim (cases_lt other position) as (λ _. HasNode more n) [
        | inl passed ↦ (with_node n).1 (inr (reached.to other n passed there))
        | inr here ↦
            let same : other ≡ position = omega arith in
            (with_node n).1 (inl (same_node l image position n node (subst (λ k. IsListedAt l image k n) same there) at))
      ];
    }

-- where no position is behind them, it has the listed nodes
pub reached_all : (l : Layout) (image : List ℕ) (set : NodeSet) (count : ℕ) → HasReached l image set count → ((position n : ℕ) → IsListedAt l image position n → position < count) → AreListed l image set
reached_all l image set count reached end n = (
  λ has. let there = reached.from n has in position_in 0 (image_list l image) there.0 n there.2,
  λ listed. let there = in_position 0 (image_list l image) n listed in reached.to there.0 n (end there.0 n there.1) there.1,
)

-- the list ends at a node that leads nowhere, and has no more positions than nodes behind the first
pub ends_here : (l : Layout) (image : List ℕ) (position node : ℕ) → IsListedAt l image position node → next_in l image node ≡ 0 → (other n : ℕ) → IsListedAt l image other n → other < position + 1
ends_here l image position node at ends other n there =
    elim (cases_lt other (position + 1)) as (λ _. other < position + 1) [
      | inl passed ↦ passed
      | inr later ↦ absurd (position_end (image_spot l image) l.nodes 0 position node at ends other n (omega arith) there)
    ]

pub ends_soon : (l : Layout) (image : List ℕ) (count : ℕ) → l.nodes < count → (other n : ℕ) → IsListedAt l image other n → other < count
ends_soon l image count more other n there = let bound = position_bound (image_spot l image) l.nodes 0 other n there in omega arith

-- A walk that looks at the anchor behind each node came to this node, and its own anchor is in order.
pub record Ordered (l : Layout) (image : List ℕ) (position node : ℕ) : Type 0 where
  pub walks : Walks l image (BreaksAnchors l image) position node
  pub kept : (w : Word) → ¬ BreaksAnchors l image position w

-- it goes on to the next node
pub ordered_next : {l : Layout} {image : List ℕ} {position node : ℕ} (next : ℕ) → LeadWithin l image → Ordered l image position node → position ≤ l.nodes → next ≡ next_in l image node → next ≢ 0
    → Walks l image (BreaksAnchors l image) (position + 1) next
ordered_next next lead ordered within is leads = walk_on next ordered.walks within is leads (walk_inside next lead ordered.walks within is leads) ordered.kept

-- past the last node that the list can have, all are in order
pub ordered_all : {l : Layout} {image : List ℕ} {position node : ℕ} → Ordered l image position node → l.nodes ≤ position → IsFirst l (BreaksAnchors l image) None
ordered_all {l} {image} {position} ordered more other w breaks =
    let there = anchor_listed l image other w breaks in
    let bound = position_bound (image_spot l image) l.nodes 0 other there.0 there.1 in
    none_more (BreaksAnchors l image) position ordered.walks.none ordered.kept other w (omega arith) breaks
