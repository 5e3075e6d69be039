-- Steps on nodes, on lines and on prevs, together.
use Rattle.std.proofs.Common.{◌≡◌, ◌≢◌, ℕ, ◌<◌, ◌⊎◌, inl, inr, ⊎_elim, List, sym, ap, ◌∙◌, subst, arith}
use Rattle.std.specs.Prelude.{slice_set, Option, Some, None, IfSome}
use Rattle.std.proofs.lemmas.List.{set-get_or}
use mathlib.Core.Option.{some}
use lib.ListN.{get_elem?}
use Rattle.pm_words.specs.Codes.{gone_status}
use Rattle.pm_words.specs.declared.layout.Layout.{Layout}
use Rattle.pm_words.specs.declared.action.Action.{Action}
use Rattle.pm_words.specs.declared.action.Action.TheVariants.{Load}
use Rattle.pm_words.specs.Locations.{Volatile, Cached, Durable, Line, HasLocation, at}
use Rattle.pm_words.specs.Rows.{acted}
use Rattle.pm_words.proofs.Kept.{action_address-drain}
use Rattle.cat_history.specs.Maps.{Map}
use Rattle.cat_history.specs.declared.op.Write.{Write}
use Rattle.data_node.specs.Spots.{Spot}
use Rattle.data_node.specs.Lists.{ListNode, IsIn}
use Rattle.pm_words.specs.Offsets.{next_offset, state_offset, prev_offset}
use Rattle.call_stages.specs.Stages.{Stage}
use Rattle.call_stages.specs.Lines.{HeldLine, line_address, Notes, passes_line, takes, looks_up, notes, keeps_safe}
use Rattle.index_law.specs.Facts.{Facts, facts_of, spot_in, status_in, list_in, IsListed}
use Rattle.index_law.specs.Worlds.{Party, facts}
use Rattle.index_law.specs.Lawful.{Lawful, Sure}
use Rattle.call_stages.specs.Stages.{HoldsNode}
use Rattle.index_law.specs.Joint.{Joint, IsJoint}
use Rattle.index_law.specs.Prevs.{prev_in, Traced, IsOwed, IsGone, IsTraced}
use Rattle.call_stages.specs.Prevs.{Debt, Prevs, names, pays, renews}
use Rattle.index_law.specs.Whole.{NodeStepKeepsAll, LineStepKeepsAll, PrevStepKeepsAll}
use Rattle.index_law.proofs.Joint.{sure_same, fit_same, node_step, line_step}
use Rattle.index_law.proofs.Noting.{LinesStay, store_leaves}
use Rattle.index_law.proofs.Prevs.{ordered_fewer, store_prev, leads_now, step_traces, prev_traces}
use Rattle.index_law.proofs.Rows.{facts-elsewhere}
use Rattle.index_law.proofs.Starts.{listed_within}
use Rattle.index_law.proofs.Switch.{leads_on}

-- a step on a line leaves the nodes and their prevs
module _ (l : Layout) (words : List ℕ) (base : Map) (history : List Write) where
  abbrev Leaves : List ℕ → Type 0
  Leaves words' = (facts_of l words' base history ≡ facts_of l words base history) × ((n : ℕ) → prev_in l words' n ≡ prev_in l words n)

  load_leaves : (address : ℕ) → Leaves (acted l words (Load address))
  load_leaves address =
      let same : acted l words (Load address) ≡ words = set-get_or words address 0 in
      (ap (λ (v : List ℕ). facts_of l v base history) same, λ n. ap (λ (v : List ℕ). prev_in l v n) same)

  line_leaves : (line : Option HeldLine) (a : Action) (x : ℕ) (after : Option HeldLine) → IfSome line (λ e. (e.caller < l.callers) × (e.number < 8)) → Notes l line a x after → Leaves (acted l words a)
  line_leaves line a x after here (passes_line {c = c} {j = j} {offset = offset} caller low small) = load_leaves (line_address l c j offset)
  line_leaves line a x after here (takes {c = c} {j = j} caller low empty_state) = load_leaves (line_address l c j state_offset)
  line_leaves line a x after here (looks_up {offset = offset} {e = e} small learnt blind) = load_leaves (line_address l e.caller e.number offset)
  line_leaves line a x after here (notes {y = y} {offset = offset} {e = e} small fits marks soils told keeps) =
      let has : HasLocation l (Cached (Line e.caller e.number offset)) = (here.0, here.1, small) in (
        facts-elsewhere l words base history (Cached (Line e.caller e.number offset)) y has (λ n o d. cc, λ n d. cc),
        λ n. store_prev l words (Cached (Line e.caller e.number offset)) y has (λ k d. cc) n,
      )
  line_leaves line a x after here (keeps_safe {y = y} {offset = offset} {e = e} small fits hand cleans) =
      let has : HasLocation l (Durable (Line e.caller e.number offset)) = (here.0, here.1, small) in
      let address = action_address-drain l (Line e.caller e.number offset) y in (
        ap (λ (q : ℕ). facts_of l (slice_set words q y) base history) address
            ∙ facts-elsewhere l words base history (Durable (Line e.caller e.number offset)) y has (λ n o d. cc, λ n d. cc),
        λ n. ap (λ (q : ℕ). prev_in l (slice_set words q y) n) address ∙ store_prev l words (Durable (Line e.caller e.number offset)) y has (λ k d. cc) n,
      )

-- where the nodes and their prevs are the same, but that fewer nodes may be GONE
pub traced_fewer : (z : Traced) (words : List ℕ) → IsTraced z → Lawful (record (z.world) { words = words }) → list_in z.world.layout words ≡ list_in z.world.layout z.world.words
    → spot_in z.world.layout words ≡ spot_in z.world.layout z.world.words → ((n : ℕ) → status_in z.world.layout words n ≡ gone_status → status_in z.world.layout z.world.words n ≡ gone_status)
    → ((n : ℕ) → prev_in z.world.layout words n ≡ prev_in z.world.layout z.world.words n) → IsTraced (record { world = record (z.world) { words = words }; debts = z.debts })
traced_fewer z words traced lawful list now fewer prevs =
    let f = facts z.world in
    let prev : ℕ → ℕ = prev_in z.world.layout z.world.words in
    let prev' : ℕ → ℕ = prev_in z.world.layout words in
    let alike : prev' ≡ prev = λ i n. prevs n i in
    record {
      lawful = lawful;
      known = λ j e q at_d at_p. subst (λ (members : List ListNode). IfSome e.known (λ k. HoldsNode q.stage k.0 × (IsIn members k.0 → ⊥) × (prev' k.0 ≡ k.1))) (sym list)
          (subst (λ (pr : ℕ → ℕ). IfSome e.known (λ k. HoldsNode q.stage k.0 × (IsListed f k.0 → ⊥) × (pr k.0 ≡ k.1))) (sym alike) (traced.known j e q at_d at_p));
      owes = λ j e q at_d at_p. subst (λ (members : List ListNode). IfSome e.owes (λ n. HoldsNode q.stage n × IsIn members n)) (sym list) (traced.owes j e q at_d at_p);
      prevs = subst (λ (members : List ListNode). (n : ℕ) → IsIn members n → spot_in z.world.layout words n next_offset ≢ 0
          → (prev' (spot_in z.world.layout words n next_offset) ≡ n) ⊎ IsOwed (record { world = record (z.world) { words = words }; debts = z.debts }) n) (sym list)
          (subst (λ (spots : ℕ → Spot). (n : ℕ) → IsListed f n → spots n next_offset ≢ 0
          → (prev' (spots n next_offset) ≡ n) ⊎ IsOwed (record { world = record (z.world) { words = words }; debts = z.debts }) n) (sym now)
          (λ n listed ne. ⊎_elim
          (λ e. inl (prevs (f.now n next_offset) ∙ e))
          (λ owed. inr (record { number = owed.number; debt = owed.debt; party = owed.party; there = owed.there; at = owed.at; is = owed.is }))
          (traced.prevs n listed ne)));
      order = record {
        order = traced.order.order;
        all = λ n gone. traced.order.all n (fewer n gone);
        ordered = ordered_fewer (IsGone f) (λ n. status_in z.world.layout words n ≡ gone_status) prev prev' fewer (λ n is to. prevs n) traced.order.order traced.order.ordered;
        within = traced.order.within;
        once = traced.order.once;
      };
      below = λ n. let is = prevs n in let low = traced.below n in omega arith;
    }

-- where they are all the same
pub traced_same : (z : Traced) (words : List ℕ) → IsTraced z → Lawful (record (z.world) { words = words }) → facts (record (z.world) { words = words }) ≡ facts z.world
    → ((n : ℕ) → prev_in z.world.layout words n ≡ prev_in z.world.layout z.world.words n) → IsTraced (record { world = record (z.world) { words = words }; debts = z.debts })
traced_same z words traced lawful same prevs =
    traced_fewer z words traced lawful (ap (λ (f : Facts). f.list) same) (ap (λ (f : Facts). f.now) same) (λ n gone. ap (λ (f : Facts). f.status n) (sym same) ∙ gone) prevs

-- where the lines are the same
pub joint_same : (z : Joint) (words : List ℕ) → IsJoint z → Lawful (record (z.world) { words = words }) → ((c j offset : ℕ) → LinesStay z.world.layout z.world.words words c j offset)
    → IsJoint (record { world = record (z.world) { words = words }; lines = z.lines })
joint_same z words joint lawful stay = record {
  lawful = lawful;
  fit = fit_same z.world.layout z.world.words words stay joint.fit;
  sure = λ j e is. sure_same z.world.layout z.world.words words e (λ o. (stay e.caller e.number o).0) (λ o. (stay e.caller e.number o).1) (joint.sure j e is);
  owned = joint.owned;
  callers = joint.callers;
}

-- a store of a prev leaves lines
pub prev_leaves : (z : Traced) (i : ℕ) (p : Party) (s : Stage) (a : Action) (d d' : Debt) → IsTraced z → get_elem? z.world.parties i ≡ some p → get_elem? z.debts i ≡ some d
    → Sure z.world.layout z.world.generation (facts z.world) p.caller p.index p.since s → Prevs z.world.layout s d a d'
    → (c j offset : ℕ) → LinesStay z.world.layout z.world.words (acted z.world.layout z.world.words a) c j offset
prev_leaves z i p s a d d' traced there owing sure (names {left = left} {fresh = fresh}) c j offset =
    store_leaves z.world.layout z.world.words (Volatile fresh.node prev_offset) left.node (sure.new.here, omega arith) (λ k q o. (λ e. cc, λ e. cc)) c j offset
prev_leaves z i p s a d d' traced there owing sure (renews {left = left} {right = right} known) c j offset =
    store_leaves z.world.layout z.world.words (Volatile right.node prev_offset) left.node (sure.other.here, omega arith) (λ k q o. (λ e. cc, λ e. cc)) c j offset
prev_leaves z i p s a d d' traced there owing sure (pays {n = n} {y = y} owes leads ne here) c j offset =
    let l = z.world.layout in
    let f = facts z.world in
    let listed : IsListed f n = (subst (λ (o : Option ℕ). IfSome o (λ k. HoldsNode p.stage k × IsListed f k)) owes (traced.owes i d p owing there)).1 in
    let to : f.now n next_offset ≡ y = leads_now l z.world.generation f p.caller p.index p.since s n y sure leads in
    let within : y < l.nodes = listed_within l f traced.lawful.list traced.lawful.row.layout y (subst (IsListed f) to (leads_on l f traced.lawful.list n listed (λ q. ne (sym to ∙ q)))) in
    store_leaves l z.world.words (Volatile y prev_offset) n (within, omega arith) (λ k q o. (λ e. cc, λ e. cc)) c j offset

pub whole_node : NodeStepKeepsAll
whole_node z i p a x t r line after d d' whole there at owing kept k told room deals = record {
  joint = node_step (record { world = z.world; lines = z.lines }) i p a x t r line after whole.joint there at kept k told room;
  traced = step_traces (record { world = z.world; debts = z.debts }) i p a x t r d d' whole.traced there owing k told room deals;
}

pub whole_line : LineStepKeepsAll
whole_line z i p a x line after whole there at k own told =
    let joint = line_step (record { world = z.world; lines = z.lines }) i p a x line after whole.joint there at k own told in
    let leaves = line_leaves z.world.layout z.world.words z.world.base z.world.history line a x after (here line at) k in
    record { joint = joint; traced = traced_same (record { world = z.world; debts = z.debts }) (acted z.world.layout z.world.words a) whole.traced joint.lawful leaves.0 leaves.1 }
  where
    here : (line : Option HeldLine) → get_elem? z.lines i ≡ some line → IfSome line (λ e. (e.caller < z.world.layout.callers) × (e.number < 8))
    here None at = tt
    here (Some e) at = (whole.joint.sure i e at).here

pub whole_prev : PrevStepKeepsAll
whole_prev z i p a d d' whole there owing prevs =
    let traced = prev_traces (record { world = z.world; debts = z.debts }) i p a d d' whole.traced there owing prevs in
    record {
      joint = joint_same (record { world = z.world; lines = z.lines }) (acted z.world.layout z.world.words a) whole.joint traced.lawful
          (prev_leaves (record { world = z.world; debts = z.debts }) i p p.stage a d d' whole.traced there owing (whole.traced.lawful.sure i p there) prevs);
      traced = traced;
    }
