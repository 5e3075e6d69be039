-- The prevs of nodes: what a party knows and owes of them, what becomes of that as it goes from stage to stage, and the
-- stores of prevs.
use Rattle.std.specs.Prelude.{◌≡◌, ◌≢◌, ℕ, ◌<◌, Bool, true, Option, Some, None, IfSome}
use Rattle.pm_words.specs.declared.layout.Layout.{Layout}
use Rattle.pm_words.specs.declared.action.Action.{Action}
use Rattle.pm_words.specs.declared.action.Action.TheVariants.{Store}
use Rattle.pm_words.specs.Offsets.{next_offset}
use Rattle.data_node.specs.Spots.{Spot}
use Rattle.call_stages.specs.Stages.{Held, Grip, Tells, Filling, Linked, Gathered, Joined, Gone, Stage, Splits, Joins}
use Rattle.call_stages.specs.Stages.{HoldsNode}
use Rattle.call_stages.specs.Kinds.{prev_address}

-- The step is the switch of a split.
pub record IsSwitch (stage next : Stage) : Type 0 where
  pub left : Grip
  pub fresh : Grip
  pub after : Grip
  pub was : stage ≡ Splits left fresh (Filling true)
  pub is : next ≡ Splits after fresh Linked

-- The step is the switch of a merge.
pub record IsJoin (stage next : Stage) : Type 0 where
  pub held : Held
  pub left : Grip
  pub right : Grip
  pub after : Grip
  pub was : stage ≡ Joins held left right Gathered
  pub is : next ≡ Joins held after right Joined

-- What a party knows of the prev of a node that it holds, which isn't listed: it is the second. And of this node, which
-- it holds, the one that it leads to may have another prev.
pub record Debt : Type 0 where
  pub known : Option (ℕ × ℕ)
  pub owes : Option ℕ

abbrev pub no_debt : Debt
no_debt = record { known = None; owes = None }

-- By what it knows of its words this node, which the stage holds, leads to that one.
abbrev pub Leads : Stage → ℕ → ℕ → Type 0
Leads (Splits left fresh phase) n y = (fresh.node ≡ n) × ((s : Spot) → Tells fresh.seen s → s next_offset ≡ y)
Leads (Joins h left right pace) n y = (left.node ≡ n) × ((s : Spot) → Tells left.seen s → s next_offset ≡ y)
Leads _ n y = ⊥

-- The step makes the right node of a merge GONE.
pub record IsRetire (stage next : Stage) : Type 0 where
  pub held : Held
  pub left : Grip
  pub right : Grip
  pub was : stage ≡ Joins held left right Joined
  pub is : next ≡ Joins held left right Gone

-- What becomes of a party's debt as it goes from one stage to another.
pub data Deals : Stage → Stage → Debt → Debt → Type 0 where
  -- it stays; before a node becomes GONE its prev is known
  keeps : {s t : Stage} {d : Debt} → (IsSwitch s t → ⊥) → (IsJoin s t → ⊥) →
      ((q : IsRetire s t) → d.known ≡ Some (q.right.node, q.left.node)) →
      IfSome d.known (λ k. HoldsNode t k.0) → IfSome d.owes (HoldsNode t) → Deals s t d d
  -- what is known is let go
  forgets : {s t : Stage} {d : Debt} → (IsSwitch s t → ⊥) → (IsJoin s t → ⊥) → (IsRetire s t → ⊥) →
      IfSome d.owes (HoldsNode t) → Deals s t d (record d { known = None })
  -- the node leads to none
  ends : {s t : Stage} {d : Debt} {n : ℕ} → (IsSwitch s t → ⊥) → (IsJoin s t → ⊥) → (IsRetire s t → ⊥) →
      d.owes ≡ Some n → Leads s n 0 → Deals s t d no_debt
  -- a fresh node comes between a full one and the next
  switches : {left after fresh : Grip} {d : Debt} → left.node ≡ after.node → d.known ≡ Some (fresh.node, left.node) →
      d.owes ≡ None →
      Deals (Splits left fresh (Filling true)) (Splits after fresh Linked) d (record {
        known = None;
        owes = Some fresh.node;
      })
  -- a node goes from between two
  joins : {h : Held} {left after right : Grip} {d : Debt} → left.node ≡ after.node → d.owes ≡ None →
      Deals (Joins h left right Gathered) (Joins h after right Joined) d (record {
        known = Some (right.node, left.node);
        owes = Some left.node;
      })

-- The stores of prevs, which change no stage.
pub data Prevs (l : Layout) : Stage → Debt → Action → Debt → Type 0 where
  -- that of a fresh node
  names : {left fresh : Grip} {lit : Bool} {d : Debt} →
      Prevs l (Splits left fresh (Filling lit)) d (Store (prev_address l fresh.node) left.node) (record d {
        known = Some (fresh.node, left.node);
      })
  -- that of the node after the fresh one, or after the right one
  pays : {s : Stage} {d : Debt} {n y : ℕ} → d.owes ≡ Some n → Leads s n y → y ≢ 0 → n < l.nodes →
      Prevs l s d (Store (prev_address l y) n) (record d { owes = None })
  -- that of the right one
  renews : {h : Held} {left right : Grip} {d : Debt} → d.known ≡ Some (right.node, left.node) →
      Prevs l (Joins h left right Gone) d (Store (prev_address l right.node) left.node) d
