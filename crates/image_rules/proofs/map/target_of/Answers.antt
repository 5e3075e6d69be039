use Rattle.std.proofs.Common.{◌≡◌, ◌≢◌, ℕ, List, suc, ◌-◌, ◌<◌, ◌≤◌, [], ◌∷◌, ◌∙◌, ap, refl, sym, subst, arith, nat_lt}
use Rattle.std.proofs.Common.{◌+◌}
use Rattle.std.proofs.lemmas.Bool.{ltb-true, ltb-false}
use Rattle.pm_words.specs.declared.layout.Layout.{Layout}
use Rattle.pm_words.specs.Offsets.{next_offset, anchor_offset}
use Rattle.data_node.specs.Lists.{number_of, key_of, anchor_in, members_from, target_from}
use Rattle.data_node.proofs.KeyLemmas.{key-number, anchor-number, anchor_zero}
use Rattle.data_node.proofs.PositionLemmas.{target_last, target_here, target_behind}
use Rattle.image_rules.specs.Nodes.{image_spot, next_in, target_in}
use Rattle.image_rules.proofs.WordLemmas.{image_spot-outside}
use Rattle.image_rules.proofs.map.target_of.Goals.{After-is_below}
use Rattle.image_rules.proofs.map.target_of.Goals as goal

pub loop-position-init : goal.loop-position-init
loop-position-init c = record { here = omega arith; left = c.args.image.now.layout.nodes; count = omega arith; target = refl }

-- a node leads to another one, where one of the walk is left: the target is the one behind it, or it
module _ (l : Layout) (image : List ℕ) (name : List ℕ) (node left : ℕ) (some : 1 ≤ left)
    (target : target_in l image name ≡ target_from node (members_from (image_spot l image) left node) (key_of name)) (next : ℕ) (is : next ≡ next_in l image node) (leads : next ≢ 0) where
  target_is : target_in l image name ≡ target_from node (members_from (image_spot l image) (suc (left - 1)) node) (key_of name)
  target_is =
      let more : left ≡ suc (left - 1) = omega arith in
      target ∙ ap (λ (fuel : ℕ). target_from node (members_from (image_spot l image) fuel node) (key_of name)) more

  target_later : anchor_in (image_spot l image next) ≤ key_of name → target_in l image name ≡ target_from next (members_from (image_spot l image) (left - 1) next) (key_of name)
  target_later reached =
      subst (λ (n : ℕ). target_in l image name ≡ target_from n (members_from (image_spot l image) (left - 1) n) (key_of name)) (sym is)
      (target_is ∙ target_behind (image_spot l image) (left - 1) node (key_of name) (λ none. leads (is ∙ none)) (subst (λ (n : ℕ). anchor_in (image_spot l image n) ≤ key_of name) is reached))

  target_now : key_of name < anchor_in (image_spot l image next) → target_in l image name ≡ node
  target_now above = target_is ∙ target_here (image_spot l image) (left - 1) node (key_of name) (λ none. leads (is ∙ none)) (subst (λ (n : ℕ). key_of name < anchor_in (image_spot l image n)) is above)

  -- a node that the image doesn't have has the lowest anchor, and leads to none
  target_out : l.nodes ≤ next → target_in l image name ≡ next
  target_out out =
      let lowest : anchor_in (image_spot l image next) ≡ 0 =
      anchor_zero (image_spot l image next) (λ i. image_spot-outside l image next anchor_offset out i ∷ image_spot-outside l image next (anchor_offset + 1) out i ∷ image_spot-outside l image next (anchor_offset + 2) out i ∷ []) in
      target_later (omega arith) ∙ target_last (image_spot l image) (left - 1) next (key_of name) (image_spot-outside l image next next_offset out)

below_is : (c : After-is_below) → c.is_below.result ≡ nat_lt (key_of c.args.name.now) (anchor_in (image_spot c.args.image.now.layout c.args.image.now.words c.next_of-next.result))
below_is c =
    let now = image_spot c.args.image.now.layout c.args.image.now.words in
    c.is_below.ensures ∙ (λ i. nat_lt ((ap number_of c.words-words.ensures.words ∙ sym (key-number c.args.name.now)) i) ((ap number_of c.anchor_of.ensures ∙ sym (anchor-number (now c.next_of-next.result))) i))

pub returns-then-nodes-next-clause-none : goal.returns-then-nodes-next-clause-none
returns-then-nodes-next-clause-none c = λ _.
    let walk = c.loop-position.invariant in
    let count = walk.count in
    let far = target_out c.args.image.now.layout c.args.image.now.words c.args.name.now c.loop-position.node walk.left (omega arith) walk.target c.next_of-next.result c.next_of-next.ensures
    c.if-next-eq0.false (omega arith) in
    omega arith

pub loop-position-preserved : goal.loop-position-preserved
loop-position-preserved c =
    let at = goal.at.loop-position-preserved c in
    let walk = c.loop-position.invariant in
    let count = walk.count in
    record {
      here = omega arith;
      left = walk.left - 1;
      count = omega arith;
      target = target_later c.args.image.now.layout c.args.image.now.words c.args.name.now c.loop-position.node walk.left (omega arith) walk.target c.next_of-next.result c.next_of-next.ensures
          c.if-next-eq0.false (ltb-false _ _ (sym (below_is at.After-is_below) ∙ c.if-is_below.false));
    }

pub returns-after-loop-position-clause-some : goal.returns-after-loop-position-clause-some
returns-after-loop-position-clause-some c =
    let walk = c.loop-position.invariant in
    let count = walk.count in
    let none : walk.left ≡ 0 = omega arith in
    let now = image_spot c.args.image.now.layout c.args.image.now.words in
    (sym (walk.target ∙ ap (λ (fuel : ℕ). target_from c.loop-position.node (members_from now fuel c.loop-position.node) (key_of c.args.name.now)) none), walk.here)

pub returns-then-next-eq0-clause-some : goal.returns-then-next-eq0-clause-some
returns-then-next-eq0-clause-some c =
    let walk = c.loop-position.invariant in
    let now = image_spot c.args.image.now.layout c.args.image.now.words in
    (sym (walk.target ∙ target_last now walk.left c.loop-position.node (key_of c.args.name.now) (sym c.next_of-next.ensures ∙ c.if-next-eq0.true)), walk.here)

pub returns-then-is_below-clause-some : goal.returns-then-is_below-clause-some
returns-then-is_below-clause-some c =
    let at = goal.at.returns-then-is_below-clause-some c in
    let walk = c.loop-position.invariant in
    let count = walk.count in (
      sym (target_now c.args.image.now.layout c.args.image.now.words c.args.name.now c.loop-position.node walk.left (omega arith) walk.target c.next_of-next.result c.next_of-next.ensures
          c.if-next-eq0.false (ltb-true _ _ (sym (below_is at.After-is_below) ∙ c.if-is_below.true))),
      walk.here,
    )
