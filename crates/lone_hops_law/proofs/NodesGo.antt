-- What a lone call leaves of the nodes, step by step.
use Rattle.std.proofs.Common.{◌≡◌, ◌≢◌, ℕ, ◌<◌, ◌^◌, ⊎_elim, Bool, true, false, cond, List, length, refl, sym, ap}
use Rattle.std.proofs.Common.{◌∙◌, subst, arith, slice_set, Option, Some, None, IfSome}
use Rattle.std.proofs.lemmas.Bool.{cases_eq, ne_eqb}
use Rattle.std.proofs.lemmas.List.{set-get_or}
use mathlib.Core.Option.{some}
use lib.ListN.{get_elem?}
use Rattle.pm_words.specs.Codes.{free_status, live_status, gone_status}
use Rattle.pm_words.specs.declared.layout.Layout.{Layout}
use Rattle.pm_words.specs.declared.action.Action.{Action}
use Rattle.pm_words.specs.Locations.{Line, Cached, Durable, address_of}
use Rattle.pm_words.specs.Rows.{acted, got}
use Rattle.pm_words.specs.Offsets.{next_offset, state_offset}
use Rattle.pm_words.proofs.Kept.{action_address-drain}
use Rattle.cat_history.specs.declared.op.Change.{Change}
use Rattle.data_node.specs.Lists.{ListNode, IsIn, IsChain, without_member}
use Rattle.call_stages.specs.declared.once.Once.{Once}
use Rattle.call_stages.specs.declared.once.Placed.{Placed}
use Rattle.call_stages.specs.Stages.{Stage, Filling, Gathered, Gone, Idle, Saw, Wears, Reads, Holds, Eyes, Splits}
use Rattle.call_stages.specs.Stages.{Leaves, Meets, Joins, HoldsNode, counted}
use Rattle.call_stages.specs.Kinds.{Step, Look, Split, Merge, prev_address}
use Rattle.call_stages.specs.Kinds as kinds
use Rattle.call_stages.specs.AnySteps.{loads_layer, on_permutation}
use Rattle.call_stages.specs.Lines.{HeldLine, line_address, Notes, passes_line, takes, looks_up, notes, keeps_safe}
use Rattle.call_stages.specs.Footings as foot
use Rattle.call_stages.specs.Prevs.{Debt, IsJoin, IsRetire, Deals, keeps, forgets, ends, switches, joins, Prevs}
use Rattle.call_stages.specs.Prevs.{names, pays, renews}
use Rattle.index_law.specs.Facts.{Facts, IsListed}
use Rattle.index_law.specs.Lawful.{Sure, SureJoins, SureSplits, IsList}
use Rattle.index_law.specs.Laws.{IsLegal}
use Rattle.index_law.specs.LoneShapes.{has_merged}
use Rattle.index_law.specs.Prevs.{prev_in, IsGone}
use Rattle.index_law.specs.Whole.{Whole, IsWhole}
use Rattle.index_law.specs.Worlds.{Party, World, facts, stepped, moved_on}
use Rattle.index_law.proofs.AnySteps.{beside_keeps}
use Rattle.index_law.proofs.Footings.{permutation_leaves}
use Rattle.index_law.proofs.Law.{step_law}
use Rattle.index_law.proofs.Listing.{merge_gone}
use Rattle.index_law.proofs.Loose.{each_loose, out_unmerged}
use Rattle.index_law.proofs.Moves.{fact_after, each_after, split_after, merge_after, facts_step}
use Rattle.index_law.proofs.Own.{allow_law, sure_within}
use Rattle.index_law.proofs.Parties.{set_here}
use Rattle.index_law.proofs.Prevs.{store_prev, nodes_leave_prevs, leads_now, chain_next, prev_here, prev_else}
use Rattle.index_law.proofs.Starts.{listed_within}
use Rattle.index_law.proofs.Switch.{leads_on}
use Rattle.lone_updater_law.specs.lone_call_law.specs.Tries.{Trying, HasShape, is_same, was_cut, was_joined, is_cut}
use Rattle.lone_updater_law.specs.lone_call_law.specs.Tries.{has_retired}
use Rattle.lone_updater_law.specs.lone_call_law.proofs.Cuts.{cut_unmerged}
use Rattle.lone_updater_law.specs.lone_call_law.proofs.Effects.{Effect, Keeps, stays, adds, cuts, drops, buries}
use Rattle.lone_updater_law.specs.lone_call_law.proofs.Effects.{is_done, step_does}
use Rattle.lone_updater_law.specs.lone_call_law.proofs.Effects as effect
use Rattle.lone_hops_law.specs.Ways.{StayGone}
use Rattle.lone_hops_law.specs.LoneNodes.{nodes_of, IsOwn, HasLeftOut, NodesStand, NodesGo, NodesEnd}
use Rattle.call_stages.specs.Stages.{IsLoose}
use Rattle.index_law.proofs.Moves.{read_after}

-- ---- by kinds

module _ {l : Layout} {g : ℕ} (f : Facts) (caller index since : ℕ) where
  split_stays : {s : Stage} {a : Action} {x : ℕ} {t : Stage} → (k : Split l g s a x t) → Sure l g f caller index since s → (n : ℕ) → IsGone f n → IsGone (split_after k f) n
  split_stays (kinds.fills has positive small within soils told) knows n is = is
  split_stays (kinds.lights {fresh = fresh} here leads) knows n is = ⊎_elim
      (λ (e : n ≡ fresh.node). absurd (let no : 0 ≡ 2 = sym (knows.at.dark refl) ∙ ap f.status (sym e) ∙ is in omega arith))
      (λ (other : n ≢ fresh.node). ap (λ b. cond b live_status (f.status n)) (ne_eqb n fresh.node other) ∙ is)
      (cases_eq n fresh.node)
  split_stays (kinds.switches here small durable soiled cut told means) knows n is = is
  split_stays (kinds.glances_left has learnt) knows n is = is
  split_stays (kinds.glances_fresh has) knows n is = is
  split_stays (kinds.drains_left has small hand cleans) knows n is = is
  split_stays (kinds.drains_fresh has small hand cleans) knows n is = is
  split_stays (kinds.trims here small durable soiled anchor told means) knows n is = is

  merge_stays : {s : Stage} {a : Action} {x : ℕ} {t : Stage} → (k : Merge l g s a x t) → (n : ℕ) → IsGone f n → IsGone (merge_after k f) n
  merge_stays k n is = ⊎_elim (λ same. same ∙ is) (λ gone. gone) (merge_gone f k n)

  -- a GONE node stays GONE
  gone_stays : {s : Stage} {a : Action} {x : ℕ} {t : Stage} {r : Option (Once Placed)} → (k : Step l g s a x t r) → Sure l g f caller index since s → (n : ℕ) → IsGone f n → IsGone (fact_after k f caller index) n
  gone_stays k knows n is = each_after f caller index k (λ φ. IsGone φ n) (λ φ list status. ap (λ (u : ℕ → ℕ). u n) status ∙ is) (λ k. split_stays k knows n is) (λ k. merge_stays k n is)

loose_own : (n m : ℕ) (s : Stage) → IsLoose s → IsOwn s n m
loose_own n m = each_loose (λ s. IsOwn s n m) tt (λ o v w k. tt) (λ o v. tt) (λ o v sight told. tt)

-- the nodes that a merge holds stay its own
look_own : {l : Layout} {g : ℕ} {s : Stage} {a : Action} {x : ℕ} {t : Stage} {r : Option (Once Placed)} (n m : ℕ) → Look l g s a x t r → IsOwn t n m
look_own n m (kinds.turns_back loose here busy) = tt
look_own n m (kinds.wears loose here free worn) = tt
look_own n m (kinds.roams has) = tt
look_own n m (kinds.roams_status here) = tt
look_own n m (kinds.is_worn has) = tt
look_own n m (kinds.sees loose here free unworn lock') = tt
look_own n m (kinds.finds_live here is) = tt
look_own n m (kinds.watches has positive live next learnt) = tt
look_own n m (kinds.watches_next has low high ne live live' next leads learnt) = tt
look_own n m (kinds.turns_away loose here up) = tt
look_own n m (kinds.steps_back loose here up) = tt
look_own n m (kinds.wanders loose here up) = tt
look_own n m (kinds.peeks here unready) = tt
look_own n m (kinds.peeks_status here unready) = tt
look_own n m (kinds.eyes clean durable here nonzero free unworn lock') = tt
look_own n m (kinds.eyes_free here is) = tt
look_own n m (kinds.passes here) = tt
look_own n m (kinds.loses here other) = tt
look_own n m (kinds.misses other) = tt
look_own n m (kinds.misses_read other small) = tt
look_own n m (kinds.times clean below) = tt
look_own n m (kinds.learns has positive unready learnt) = tt
look_own n m (kinds.decides has positive clean durable about learnt decided) = tt
look_own n m (kinds.reads_on {t = t} k) = loose_own n m t (read_after k)
look_own n m (kinds.glances has unready) = tt

step_own : {l : Layout} {g : ℕ} {s : Stage} {a : Action} {x : ℕ} {t : Stage} {r : Option (Once Placed)} (n m : ℕ) → Step l g s a x t r → has_merged s ≡ true → has_merged t ≡ true → IsOwn s n m → IsOwn t n m
step_own n m (kinds.looks look) was is own = look_own n m look
step_own n m (kinds.locks same named live between) was is own = tt
step_own n m (kinds.locks_read same named live between unworn taken small) was is own = tt
step_own n m (kinds.stores has content small clean soils learnt means) was is own = tt
step_own n m (kinds.commits has content small clean durable soiled old about learnt means) was is own = tt
step_own n m (kinds.drains has small unready hand cleans) was is own = tt
step_own n m (kinds.counts durable ready pending unplaced) was is own = tt
step_own n m (kinds.unlocks next pending durable unready answers) was is own = tt
step_own n m (kinds.claims unplaced here same) was is own = tt
step_own n m (kinds.publishes next left fresh) was is own = tt
step_own n m (kinds.leaves next) was is own = tt
step_own n m (kinds.splits k) was is own = absurd (never k is)
  where
    never : {l : Layout} {g : ℕ} {s : Stage} {a : Action} {x : ℕ} {t : Stage} → Split l g s a x t → has_merged t ≡ true → ⊥
    never (kinds.fills has positive small within soils told) is = cc
    never (kinds.lights here leads) is = cc
    never (kinds.switches here small durable soiled cut told means) is = cc
    never (kinds.glances_left has learnt) is = cc
    never (kinds.glances_fresh has) is = cc
    never (kinds.drains_left has small hand cleans) is = cc
    never (kinds.drains_fresh has small hand cleans) is = cc
    never (kinds.trims here small durable soiled anchor told means) is = cc
step_own n m (kinds.merges (kinds.meets here same untimed leads)) was is own = tt
step_own n m (kinds.merges (kinds.knows_own has positive learnt)) was is own = tt
step_own n m (kinds.merges (kinds.knows_right has positive told)) was is own = tt
step_own n m (kinds.merges (kinds.copies has content small soils learnt means)) was is own = tt
step_own n m (kinds.merges (kinds.takes_up has)) was is own = tt
step_own n m (kinds.merges (kinds.puts_down has small hand cleans)) was is own = tt
step_own n m (kinds.merges (kinds.parts next)) was is own = tt
step_own n m (kinds.merges (kinds.gathers small durable soiled told gathered)) was is own = absurd (let no : false ≡ true = is in cc)
step_own n m (kinds.merges (kinds.joins small durable soiled next told)) was is own = absurd (let no : false ≡ true = was in cc)
step_own n m (kinds.merges (kinds.glances_joined has learnt)) was is own = own
step_own n m (kinds.merges (kinds.drains_joined has small hand cleans)) was is own = own
step_own n m (kinds.merges (kinds.retires durable)) was is own = own
step_own n m (kinds.merges (kinds.yields next durable)) was is own = tt

both : {b : Bool} → b ≡ true → b ≡ false → ⊥
both is isnt = cc

-- a call that is answered is past its merge
answered_retired : (l : Layout) (g : ℕ) (f : Facts) (caller index since : ℕ) (s : Stage) (answer : Once Placed) → IsLegal l g f caller index since s (Some answer) → has_merged s ≡ true → has_retired s ≡ true
answered_retired l g f caller index since Idle answer legal is = absurd (let no : false ≡ true = is in cc)
answered_retired l g f caller index since (Saw n v w k) answer legal is = absurd (let no : false ≡ true = is in cc)
answered_retired l g f caller index since (Wears n v) answer legal is = absurd (let no : false ≡ true = is in cc)
answered_retired l g f caller index since (Reads n v sight told) answer legal is = absurd (let no : false ≡ true = is in cc)
answered_retired l g f caller index since (Holds n w h) answer legal is = is
answered_retired l g f caller index since (Eyes n w h m v u free) answer legal is = is
answered_retired l g f caller index since (Splits left fresh phase) answer legal is = absurd legal
answered_retired l g f caller index since (Leaves left) answer legal is = absurd (let no : false ≡ true = is in cc)
answered_retired l g f caller index since (Meets n w h right) answer legal is = is
answered_retired l g f caller index since (Joins h left right pace) answer legal is = absurd legal

-- ---- what the debts say of a merge

abbrev left_of : Stage → ℕ
left_of (Joins h left right pace) = left.node
left_of _ = 0

join_node : {s t : Stage} {d d' : Debt} → Deals s t d d' → (q : IsJoin s t) → q.left.node ≡ q.after.node
join_node (keeps no_switch no_join retire holds holds_owed) q = absurd (no_join q)
join_node (forgets no_switch no_join no_retire holds) q = absurd (no_join q)
join_node (ends no_switch no_join no_retire owed leads) q = absurd (no_join q)
join_node (switches one fresh_known none) q = absurd (let no = q.was in cc)
join_node (joins one none) q = sym (ap left_of q.was) ∙ one ∙ ap left_of q.is

retire_known : {s t : Stage} {d d' : Debt} → Deals s t d d' → (q : IsRetire s t) → d.known ≡ Some (q.right.node, q.left.node)
retire_known (keeps no_switch no_join retire holds holds_owed) q = retire q
retire_known (forgets no_switch no_join no_retire holds) q = absurd (no_retire q)
retire_known (ends no_switch no_join no_retire owed leads) q = absurd (no_retire q)
retire_known (switches one fresh_known none) q = absurd (let no = q.was in cc)
retire_known (joins one none) q = absurd (let no = q.was in cc)

-- what a merge has left of the nodes, where the list stays and its nodes stay the call's own
still_left : (w0 w w' : World) (s s' : Stage) (b : HasLeftOut w0 w s) → (facts w').list ≡ (facts w).list → IsOwn s' b.left b.right
    → (has_retired s' ≡ true → ((facts w').status b.right ≡ gone_status) × (prev_in w'.layout w'.words b.right ≡ b.left)) → HasLeftOut w0 w' s'
still_left w0 w w' s s' b same own gone = let list = same ∙ b.list in search (b.listed, b.some, b.leads, list, own, gone)

-- ---- the steps

module _ (name : List ℕ) (own : Option Change) (w0 : World) (z : Whole) (i : ℕ) (p : Party) (whole : IsWhole z) (o : Trying name own w0 i z.world p) where
  open z.world use {layout as l, generation as g, words}

  abbrev w : World
  w = z.world

  abbrev f : Facts
  f = facts z.world

  knows : Sure l g f p.caller p.index p.since p.stage
  knows = o.lawful.sure i p o.there

  -- before its switch the list is as it was
  list_was : is_cut p.stage ≡ false → has_merged p.stage ≡ false → f.list ≡ (facts w0).list
  list_was uncut unmerged = of o.shape
    where
      of : HasShape name own w0 w p.stage → f.list ≡ (facts w0).list
      of (is_same still apart list) = list
      of (was_cut cut halved history) = absurd (both cut uncut)
      of (was_joined still merged given deletes joined) = absurd (both merged unmerged)

  -- ---- on nodes
  module _ (a : Action) (x : ℕ) (t : Stage) (r : Option (Once Placed)) (k : Step l g p.stage a x t r) (told : x ≡ got l words a) (room : length w.history < 2 ^ 63) where
    abbrev w' : World
    w' = stepped z.world i p a t

    gone_on : (n : ℕ) → IsGone f n → IsGone (facts (stepped z.world i p a t)) n
    gone_on n gone =
        subst (λ (φ : Facts). IsGone φ n) (sym (facts_step w.words w.base w.history p.caller p.index p.since k o.lawful.row o.lawful.list told knows))
        (gone_stays f p.caller p.index p.since k knows n gone)

    prev_on : (n : ℕ) → prev_in l (acted l words a) n ≡ prev_in l words n
    prev_on n = nodes_leave_prevs l words p.stage a n (allow_law l g p.stage a x t r (sure_within l g f p.caller p.index p.since p.stage knows) k)

    stay_on : StayGone (nodes_of w0) (nodes_of w) → StayGone (nodes_of w0) (nodes_of (stepped z.world i p a t))
    stay_on before n gone = let now = before n gone in (gone_on n now.0, prev_on n ∙ now.1)

    -- as far as the call was, it still is
    left_on : (s : Stage) → HasLeftOut w0 w p.stage → (facts (stepped z.world i p a t)).list ≡ f.list → has_retired s ≡ has_retired p.stage → ((n m : ℕ) → IsOwn p.stage n m → IsOwn s n m)
        → HasLeftOut w0 (stepped z.world i p a t) s
    left_on s b same retired mine = still_left w0 w (stepped z.world i p a t) p.stage s b same (mine b.left b.right b.own) (λ is.
        let was = b.gone (sym retired ∙ is) in (gone_on b.right was.0, prev_on b.right ∙ was.1))

    does : Effect l f (facts (stepped z.world i p a t)) p.stage x t r
    does = subst (λ (φ : Facts). Effect l f φ p.stage x t r) (sym (facts_step w.words w.base w.history p.caller p.index p.since k o.lawful.row o.lawful.list told knows))
        (step_does f o.lawful.list p.caller p.index p.since k knows)

    after : Sure l g (facts (stepped z.world i p a t)) p.caller p.index p.since t
    after = (step_law w i p a x t r o.lawful o.there k told room).kept.sure i (moved_on p t) (set_here w.parties i (moved_on p t) p o.there)

    module _ (d d' : Debt) (owing : get_elem? z.debts i ≡ some d) (deals : Deals p.stage t d d') (before : has_merged p.stage ≡ true → HasLeftOut w0 w p.stage) where
      kept_on : Keeps p.stage t → (facts (stepped z.world i p a t)).list ≡ f.list → has_merged t ≡ true → HasLeftOut w0 (stepped z.world i p a t) t
      kept_on kept same merged = ⊎_elim
          (λ out. absurd (both merged (out_unmerged t out)))
          (λ (alike : (has_merged t ≡ has_merged p.stage) × (has_retired t ≡ has_retired p.stage)).
          let was : has_merged p.stage ≡ true = sym alike.0 ∙ merged in
          left_on t (before was) same alike.1 (λ n m. step_own n m k was merged))
          kept

      joined_on : (join : IsJoin p.stage t) → (facts (stepped z.world i p a t)).list ≡ without_member join.right.node f.list → HasLeftOut w0 (stepped z.world i p a t) t
      joined_on join shorter =
          let sure : SureJoins l g f p.caller p.index p.since join.held join.left join.right Gathered = subst (λ (s : Stage). Sure l g f p.caller p.index p.since s) join.was knows in
          let linked = sure.at.linked in
          let was : f.list ≡ (facts w0).list = list_was (ap is_cut join.was) (ap has_merged join.was) in
          let listed : IsListed (facts w0) join.left.node = subst (λ (m : List ListNode). IsIn m join.left.node) was linked.listed in
          let chain : IsChain f.now 0 (facts w0).list = subst (IsChain f.now 0) was o.lawful.list.chain in
          let began : IsList w0.layout (facts w0) = o.start.began in
          record {
            left = join.left.node;
            right = join.right.node;
            listed = listed;
            some = sure.nonzero;
            leads = chain_next f.now (facts w0).now 0 (facts w0).list chain began.chain join.left.node listed ∙ linked.leads;
            list = shorter ∙ ap (without_member join.right.node) was;
            own = subst (λ (s : Stage). IsOwn s join.left.node join.right.node) (sym join.is) (sym (join_node deals join), refl);
            gone = λ retired. absurd (both retired (ap has_retired join.is));
          }

      buried_on : IsRetire p.stage t → (facts (stepped z.world i p a t)).list ≡ f.list → HasLeftOut w0 (stepped z.world i p a t) t
      buried_on retire same =
          let b = before (ap has_merged retire.was) in
          let mine : (retire.left.node ≡ b.left) × (retire.right.node ≡ b.right) = subst (λ (s : Stage). IsOwn s b.left b.right) retire.was b.own in
          let sure : SureJoins l g (facts (stepped z.world i p a t)) p.caller p.index p.since retire.held retire.left retire.right Gone =
          subst (λ (s : Stage). Sure l g (facts (stepped z.world i p a t)) p.caller p.index p.since s) retire.is after in
          let known = subst (λ (q : Option (ℕ × ℕ)). IfSome q (λ k. prev_in l words k.0 ≡ k.1)) (retire_known deals retire) (prevs_known d owing) in
          still_left w0 w (stepped z.world i p a t) p.stage t b same (subst (λ (s : Stage). IsOwn s b.left b.right) (sym retire.is) mine) (λ _. (
            ap (facts (stepped z.world i p a t)).status (sym mine.1) ∙ sure.at.gone,
            prev_on b.right ∙ ap (prev_in l words) (sym mine.1) ∙ known ∙ mine.0,
          ))
        where
          only : (q : Option (ℕ × ℕ)) → IfSome q (λ k. HoldsNode p.stage k.0 × (IsListed f k.0 → ⊥) × (prev_in l words k.0 ≡ k.1)) → IfSome q (λ k. prev_in l words k.0 ≡ k.1)
          only None is = tt
          only (Some k) is = is.2

          prevs_known : (d : Debt) → get_elem? z.debts i ≡ some d → IfSome d.known (λ k. prev_in l words k.0 ≡ k.1)
          prevs_known d owing = only d.known (whole.traced.known i d p owing o.there)

      left_out : {q : Option (Once Placed)} → q ≡ None → Effect l f (facts (stepped z.world i p a t)) p.stage x t q → has_merged t ≡ true → HasLeftOut w0 (stepped z.world i p a t) t
      left_out none (stays uncounted placed cut kept same) merged = kept_on kept same merged
      left_out none (adds counted_is unplaced placed uncut still kept same) merged = kept_on kept same merged
      left_out none (cuts uncounted unplaced placed uncut cut kept halved) merged = absurd (cut_unmerged t cut merged)
      left_out none (drops join shorter) merged = joined_on join shorter
      left_out none (buries retire same more) merged = buried_on retire same
      left_out none (effect.ends uncounted other unplaced same) merged = absurd (cc)
      left_out none (is_done uncounted done same) merged = absurd (cc)

      nodes_on : r ≡ None → StayGone (nodes_of w0) (nodes_of w) → NodesStand w0 (stepped z.world i p a t) t
      nodes_on none before_stay = record { stay = stay_on before_stay; left_out = left_out none does }

  -- ---- beside nodes
  beside_on : (a : Action) → facts (stepped z.world i p a p.stage) ≡ f → ((n : ℕ) → IsGone f n → prev_in l (acted l words a) n ≡ prev_in l words n) → NodesStand w0 w p.stage
      → NodesStand w0 (stepped z.world i p a p.stage) p.stage
  beside_on a same prevs stands = record {
    stay = λ n gone. let now = stands.stay n gone in (ap (λ (φ : Facts). φ.status n) same ∙ now.0, prevs n now.0 ∙ now.1);
    left_out = λ merged.
        let b = stands.left_out merged in
        still_left w0 w (stepped z.world i p a p.stage) p.stage p.stage b (ap (λ (φ : Facts). φ.list) same) b.own (λ retired.
        let was = b.gone retired in (ap (λ (φ : Facts). φ.status b.right) same ∙ was.0, prevs b.right was.0 ∙ was.1));
  }

  line_prevs : (line after : Option HeldLine) (a : Action) (x : ℕ) → get_elem? z.lines i ≡ some line → Notes l line a x after → (n : ℕ) → prev_in l (acted l words a) n ≡ prev_in l words n
  line_prevs line after a x at_line (passes_line {c = c} {j = j} {offset = k} caller low within) n = ap (λ (v : List ℕ). prev_in l v n) (set-get_or words (line_address l c j k) 0)
  line_prevs line after a x at_line (takes {c = c} {j = j} caller low zero) n = ap (λ (v : List ℕ). prev_in l v n) (set-get_or words (line_address l c j state_offset) 0)
  line_prevs line after a x at_line (looks_up {offset = k} {e = e} within learnt blind) n = ap (λ (v : List ℕ). prev_in l v n) (set-get_or words (line_address l e.caller e.number k) 0)
  line_prevs line after a x at_line (notes {y = y} {offset = k} {e = e} within fits marks soils tells kept) n =
      let here = (whole.joint.sure i e at_line).here in
      store_prev l words (Cached (Line e.caller e.number k)) y (here.0, here.1, within) (λ m is. cc) n
  line_prevs line after a x at_line (keeps_safe {y = y} {offset = k} {e = e} within fits hand cleans) n =
      let here = (whole.joint.sure i e at_line).here in
      ap (λ (q : ℕ). prev_in l (slice_set words q y) n) (action_address-drain l (Line e.caller e.number k) y) ∙ store_prev l words (Durable (Line e.caller e.number k)) y (here.0, here.1, within) (λ m is. cc) n

  -- the prevs that a call stores are those of nodes that aren't GONE, or as they were
  stored_prevs : (s : Stage) (d d' : Debt) (a : Action) → p.stage ≡ s → get_elem? z.debts i ≡ some d → Prevs l s d a d' → (n : ℕ) → IsGone f n → prev_in l (acted l words a) n ≡ prev_in l words n
  stored_prevs s d d' a stage owing (names {left = left} {fresh = fresh} {lit = lit}) n gone =
      let sure : SureSplits l g f left fresh (Filling lit) = subst (λ (u : Stage). Sure l g f p.caller p.index p.since u) stage knows in
      prev_else l words fresh.node left.node n sure.new.here (λ e. lit_up lit sure.at.bright sure.at.dark (ap f.status (sym e) ∙ gone))
    where
      lit_up : (lit : Bool) → (lit ≡ true → f.status fresh.node ≡ live_status) → (lit ≡ false → f.status fresh.node ≡ free_status) → f.status fresh.node ≡ gone_status → ⊥
      lit_up true bright dark is = absurd (let no : 1 ≡ 2 = sym (bright refl) ∙ is in omega arith)
      lit_up false bright dark is = absurd (let no : 0 ≡ 2 = sym (dark refl) ∙ is in omega arith)
  stored_prevs s d d' a stage owing (pays {n = m} {y = y} owes leads ne here) n gone =
      let listed : IsListed f m = (subst (λ (q : Option ℕ). IfSome q (λ k. HoldsNode p.stage k × IsListed f k)) owes (whole.traced.owes i d p owing o.there)).1 in
      let sure : Sure l g f p.caller p.index p.since s = subst (λ (u : Stage). Sure l g f p.caller p.index p.since u) stage knows in
      let to : f.now m next_offset ≡ y = leads_now l g f p.caller p.index p.since s m y sure leads in
      let next : IsListed f y = subst (IsListed f) to (leads_on l f o.lawful.list m listed (λ q. ne (sym to ∙ q))) in
      prev_else l words y m n (listed_within l f o.lawful.list o.lawful.row.layout y next) (λ e. absurd (let no : 1 ≡ 2 = sym (o.lawful.live.live y next) ∙ ap f.status (sym e) ∙ gone in omega arith))
  stored_prevs s d d' a stage owing (renews {left = left} {right = right} known) n gone =
      let sure : SureJoins l g f p.caller p.index p.since _ left right Gone = subst (λ (u : Stage). Sure l g f p.caller p.index p.since u) stage knows in
      let within = sure.other.here in
      let is : prev_in l words right.node ≡ left.node = (subst (λ (q : Option (ℕ × ℕ)). IfSome q (λ k. HoldsNode p.stage k.0 × (IsListed f k.0 → ⊥) × (prev_in l words k.0 ≡ k.1))) known (whole.traced.known i d p owing o.there)).2 in
      ⊎_elim
      (λ (e : n ≡ right.node). ap (prev_in l (slice_set words (prev_address l right.node) left.node)) e ∙ prev_here l words right.node left.node o.lawful.row.whole within ∙ sym is ∙ ap (prev_in l words) (sym e))
      (λ (other : n ≢ right.node). prev_else l words right.node left.node n within other)
      (cases_eq n right.node)

pub nodes_go : NodesGo
nodes_go name own w0 z i p f next a x whole o at_line owing stage stands (foot.on_nodes {stage = s} {next = t} {line = line} {after = later} {debt = d} {debt' = d'} minds kept k deals) told room =
    let l = z.world.layout in
    let g = z.world.generation in
    nodes_on name own w0 z i p whole o a x t None (subst (λ (u : Stage). Step l g u a x t None) (sym stage) k) told room d d' owing (subst (λ (u : Stage). Deals u t d d') (sym stage) deals) stands.left_out refl stands.stay
nodes_go name own w0 z i p f next a x whole o at_line owing stage stands (foot.on_line {stage = s} {line = line} {after = later} waits none is_beside k mine) told room =
    let uncounted : counted p.stage ≡ None = ap counted stage ∙ none in
    subst (λ (u : Stage). NodesStand w0 (stepped z.world i p a u) u) stage
    (beside_on name own w0 z i p whole o a (beside_keeps z.world i p a o.lawful o.there uncounted is_beside).facts (λ n gone. line_prevs name own w0 z i p whole o line later a x at_line k n) stands)
nodes_go name own w0 z i p f next a x whole o at_line owing stage stands (foot.on_prev {stage = s} {line = line} {debt = d} {debt' = d'} none is_beside k) told room =
    let uncounted : counted p.stage ≡ None = ap counted stage ∙ none in
    subst (λ (u : Stage). NodesStand w0 (stepped z.world i p a u) u) stage
    (beside_on name own w0 z i p whole o a (beside_keeps z.world i p a o.lawful o.there uncounted is_beside).facts (stored_prevs name own w0 z i p whole o s d d' a stage owing k) stands)
nodes_go name own w0 z i p f next a x whole o at_line owing stage stands (foot.on_layer {stage = s} {w = v} none place) told room =
    let uncounted : counted p.stage ≡ None = ap counted stage ∙ none in
    let l = z.world.layout in
    let words = z.world.words in
    subst (λ (u : Stage). NodesStand w0 (stepped z.world i p a u) u) stage
    (beside_on name own w0 z i p whole o a (beside_keeps z.world i p a o.lawful o.there uncounted (loads_layer place)).facts
    (λ n gone. ap (λ (ws : List ℕ). prev_in l ws n) (set-get_or words (address_of l (Cached v)) 0)) stands)
nodes_go name own w0 z i p f next a x whole o at_line owing stage stands (foot.on_permutation {stage = s} none on) told room =
    let uncounted : counted p.stage ≡ None = ap counted stage ∙ none in
    subst (λ (u : Stage). NodesStand w0 (stepped z.world i p a u) u) stage
    (beside_on name own w0 z i p whole o a (beside_keeps z.world i p a o.lawful o.there uncounted (on_permutation on)).facts
    (λ n gone. (permutation_leaves z.world.layout z.world.words a on).0 n) stands)

pub nodes_end : NodesEnd
nodes_end name own w0 z i p f debt a x answer whole o stage stands (foot.on_nodes {stage = s} minds kept k deals) told room =
    let l = z.world.layout in
    let g = z.world.generation in
    let w' = stepped z.world i p a Idle in
    let k' : Step l g p.stage a x Idle (Some answer) = subst (λ (u : Stage). Step l g u a x Idle (Some answer)) (sym stage) k in
    let legal = (step_law z.world i p a x Idle (Some answer) o.lawful o.there k' told room).legal in
    let same : (facts w').list ≡ (facts z.world).list = ended refl (does name own w0 z i p whole o a x Idle (Some answer) k' told room) in (
      stay_on name own w0 z i p whole o a x Idle (Some answer) k' told room stands.stay,
      λ merged. (
        answered_retired l g (facts w') p.caller p.index p.since p.stage answer legal merged,
        left_on name own w0 z i p whole o a x Idle (Some answer) k' told room p.stage (stands.left_out merged) same refl (λ n m is. is),
      ),
    )
  where
    ended : {l : Layout} {f f' : Facts} {s : Stage} {x : ℕ} {t : Stage} {q : Option (Once Placed)} → q ≡ Some answer → Effect l f f' s x t q → f'.list ≡ f.list
    ended is (stays uncounted placed cut kept same) = same
    ended is (adds counted_is unplaced placed uncut still kept same) = same
    ended is (cuts uncounted unplaced placed uncut cut kept halved) = absurd (cc)
    ended is (drops join shorter) = absurd (cc)
    ended is (buries retire same more) = same
    ended is (effect.ends uncounted other unplaced same) = same
    ended is (is_done uncounted done same) = same
