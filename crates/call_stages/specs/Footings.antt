-- All that a party has at a moment, and the steps that it makes: on nodes, on its log line, the stores of prevs, the
-- loads of words of the search layer, and the loads and stores of permutations.
use Rattle.std.specs.Prelude.{◌≡◌, ◌≢◌, ℕ, ◌⊎◌, true, false, [], Option, Some, None, IfSome}
use Rattle.pm_words.specs.declared.layout.Layout.{Layout}
use Rattle.pm_words.specs.declared.action.Action.{Action}
use Rattle.pm_words.specs.declared.action.Action.TheVariants.{Load}
use Rattle.pm_words.specs.Codes.{empty_state, open_state, merge_kind}
use Rattle.layer_map.specs.cat_key.specs.Names.{AreNameWords}
use Rattle.data_node.specs.Spots.{Spot}
use Rattle.data_node.specs.Lists.{anchor_in, anchor_words}
use Rattle.call_stages.specs.declared.once.Once.{Once}
use Rattle.call_stages.specs.declared.once.Placed.{Placed}
use Rattle.call_stages.specs.Stages.{Held, Grip, Filling, Linked, Gathered, Joined, Gone, Stage, Holds, Splits, Joins}
use Rattle.call_stages.specs.Stages.{IsSwitched, Tells, counted}
use Rattle.call_stages.specs.Kinds.{Step}
use Rattle.call_stages.specs.Lines.{HeldLine, Notes}
use Rattle.call_stages.specs.AnySteps.{IsOnPermutation, IsBeside}
use Rattle.call_stages.specs.Prevs.{Debt, Deals, Prevs}
use Rattle.pm_words.specs.Locations.{Word, Cached, address_of}
use Rattle.pm_words.specs.Offsets.{state_offset, kind_offset, line_node_offset}
use Rattle.layer_map.specs.Places.{IsLayerPlace}

-- The stage of its call, its log line, and what it knows and owes of prevs.
pub record Footing : Type 0 where
  pub stage : Stage
  pub line : Option HeldLine
  pub debt : Debt

-- What a party knows of its line says that it has this node's anchor, if that is a name.
abbrev pub HasAnchorOf : HeldLine → Grip → Type 0
HasAnchorOf e node =
    (s t : Spot) → Tells e.seen s → Tells node.seen t → AreNameWords (anchor_words t) → anchor_in s ≡ anchor_in t

-- And that it is OPEN, durably.
pub record IsOpenOf (e : HeldLine) (node : Grip) : Type 0 where
  pub unready : e.ready ≡ false
  pub durable : e.dirty ≡ []
  pub open_state : (s : Spot) → Tells e.seen s → s state_offset ≡ open_state
  pub anchor : HasAnchorOf e node

-- Or that it is of the merge with which this node is left out.
pub record IsOfMerge (e : HeldLine) (right : Grip) : Type 0 where
  pub kind : (s : Spot) → Tells e.seen s → s kind_offset ≡ merge_kind
  pub node : (s : Spot) → Tells e.seen s → s line_node_offset ≡ right.node
  pub anchor : HasAnchorOf e right

-- It has a line of which this holds.
abbrev pub HasLine : Option HeldLine → (HeldLine → Type 0) → Type 0
HasLine None P = ⊥
HasLine (Some e) P = P e

-- What a step on nodes asks of the party's line: by a switch the list changes only while the line is OPEN for it, and
-- a node becomes GONE while the line isn't READY yet; it is given back only once the line is READY.
abbrev pub Minds : Stage → Stage → Option HeldLine → Type 0
Minds (Splits left fresh (Filling true)) (Splits after other Linked) line = HasLine line (λ e. IsOpenOf e fresh)
Minds (Joins h left right Gathered) (Joins held after other Joined) line =
    HasLine line (λ e. IsOpenOf e right × IsOfMerge e right)
Minds (Joins h left right Joined) (Joins held after other Gone) line = HasLine line (λ e. e.ready ≡ false)
Minds (Joins h left right Gone) (Holds n lock held) line = HasLine line (λ e. (e.ready ≡ true) × IsOfMerge e right)
Minds _ _ line = Unit {0}

-- The stage holds the right node of its merge, which is GONE.
abbrev pub HoldsMerged : Stage → Grip → Type 0
HoldsMerged stage right = (h : Held) × (left : Grip) × (stage ≡ Joins h left right Gone)

-- What is known of a line of a merge says so of the right node, which the stage holds and which is GONE.
abbrev pub IsRetired : Stage → HeldLine → Type 0
IsRetired (Joins h left right Gone) e = IsOfMerge e right
IsRetired _ e = ⊥

-- What a step on the line asks of the stage: a line becomes READY only once the switch is durable, and one of a merge
-- once the right node is GONE, while both nodes are held.
abbrev pub Waits : Stage → Option HeldLine → Option HeldLine → Type 0
Waits stage (Some e) (Some after) = e.ready ≡ false → after.ready ≡ true →
    ((n : ℕ) → IsSwitched stage n → ⊥) ×
    (((s : Spot) → Tells e.seen s → s kind_offset ≢ merge_kind) ⊎ IsRetired stage e)
Waits stage _ _ = Unit {0}

-- The line is known to be EMPTY.
abbrev pub IsKnownEmpty : HeldLine → Type 0
IsKnownEmpty e = (s : Spot) → Tells e.seen s → s state_offset ≡ empty_state

-- The line is left to a turn: it was made READY, and the party gives back the node that it merged, if it did.
pub record IsLeftToTurn (next : Stage) (e : HeldLine) : Type 0 where
  pub ready : e.ready ≡ true
  pub given_back : (right : Grip) → HoldsMerged next right → ⊥

-- With a step that leads to this stage a party keeps its line, or lets go of one that is known to be EMPTY or that is
-- left to a turn.
abbrev pub KeepsOrLetsGo : Stage → Option HeldLine → Option HeldLine → Type 0
KeepsOrLetsGo next line after =
    (after ≡ line) ⊎ ((after ≡ None) × IfSome line (λ e. IsKnownEmpty e ⊎ IsLeftToTurn next e))

-- A step of a party of this caller, by an action that gives a number, with the answer if the call is done.
pub data FootStep (l : Layout) (g c : ℕ) : Footing → Action → ℕ → Footing → Option (Once Placed) → Type 0 where
  on_nodes : {stage next : Stage} {line after : Option HeldLine} {debt debt' : Debt} {action : Action} {x : ℕ}
      {answer : Option (Once Placed)} →
      Minds stage next line → KeepsOrLetsGo next line after → Step l g stage action x next answer →
      Deals stage next debt debt' →
      FootStep l g c (record { stage = stage; line = line; debt = debt }) action x (record {
        stage = next;
        line = after;
        debt = debt';
      }) answer
  on_line : {stage : Stage} {line after : Option HeldLine} {debt : Debt} {action : Action} {x : ℕ} →
      Waits stage line after → counted stage ≡ None → IsBeside l action → Notes l line action x after →
      IfSome after (λ e. e.caller ≡ c) →
      FootStep l g c (record { stage = stage; line = line; debt = debt }) action x (record {
        stage = stage;
        line = after;
        debt = debt;
      }) None
  on_prev : {stage : Stage} {line : Option HeldLine} {debt debt' : Debt} {action : Action} {x : ℕ} →
      counted stage ≡ None → IsBeside l action → Prevs l stage debt action debt' →
      FootStep l g c (record { stage = stage; line = line; debt = debt }) action x (record {
        stage = stage;
        line = line;
        debt = debt';
      }) None
  on_layer : {stage : Stage} {line : Option HeldLine} {debt : Debt} {w : Word} {x : ℕ} → counted stage ≡ None →
      IsLayerPlace l w →
      FootStep l g c (record { stage = stage; line = line; debt = debt }) (Load (address_of l (Cached w))) x (record {
        stage = stage;
        line = line;
        debt = debt;
      }) None
  on_permutation : {stage : Stage} {line : Option HeldLine} {debt : Debt} {action : Action} {x : ℕ} →
      counted stage ≡ None → IsOnPermutation l action →
      FootStep l g c (record { stage = stage; line = line; debt = debt }) action x (record {
        stage = stage;
        line = line;
        debt = debt;
      }) None
