-- The list and the statuses after a step.
use Rattle.std.proofs.Common.{◌≡◌, ◌≢◌, ℕ, ◌<◌, ◌≤◌, ◌⊎◌, inl, inr, ⊎_elim, Bool, cond, List, refl, sym, ap, ◌∙◌, subst, arith}
use Rattle.std.specs.Prelude.{Option}
use Rattle.std.proofs.lemmas.Bool.{cases_eq, eq-eqb, ne_eqb}
use Rattle.pm_words.specs.Codes.{live_status, gone_status}
use Rattle.pm_words.specs.declared.layout.Layout.{Layout}
use Rattle.pm_words.specs.declared.action.Action.{Action}
use Rattle.pm_words.specs.Offsets.{bitmap_offset, next_offset}
use Rattle.version_lock.specs.Versions.{IsFree}
use Rattle.cat_key.specs.Names.{IsName}
use Rattle.std.specs.List.{AllByRecursion}
use Rattle.data_node.specs.Lists.{ListNode, IsIn, IsChain, Rise, key_of}
use Rattle.call_stages.specs.declared.once.Once.{Once}
use Rattle.call_stages.specs.declared.once.Placed.{Placed}
use Rattle.call_stages.specs.Stages.{Stage}
use Rattle.call_stages.specs.Kinds.{Step, looks, locks, locks_read, stores, commits, drains, counts, unlocks, splits, claims, publishes, leaves, Split, fills, lights, switches, glances_left, glances_fresh, drains_left, drains_fresh, trims, Merge, meets, knows_own, knows_right, copies, takes_up, puts_down, parts, gathers, joins, glances_joined, drains_joined, retires, yields, merges}
use Rattle.index_law.specs.Facts.{Facts, map_now, IsListed}
use Rattle.index_law.specs.Lawful.{IsList, AreLive, Sure}
use Rattle.call_stages.specs.Stages.{HoldsNode}
use Rattle.data_node.proofs.ListLemmas.{chain_same}
use Rattle.index_law.proofs.Locks.{cut_now, own_of, holds_or, steady_else, given_back, lead}
use Rattle.index_law.proofs.Moves.{fact_after, split_after, merge_after, each_after, each_merged}
use Rattle.index_law.proofs.Past.{list_past, listed_was}
use Rattle.index_law.proofs.Rows.{with_word, SameLinks, links_content, links_else}
use Rattle.index_law.proofs.Switch.{list_after, listed_after}
use Rattle.index_law.proofs.Versions.{unfree}

-- the list where no listed node's next or anchor is another
relist : (l : Layout) (f f' : Facts) → f'.list ≡ f.list → ((n : ℕ) → IsListed f n → SameLinks f.now f'.now n) → IsList l f → IsList l f'
relist l f f' same links list = record {
  chain = subst (IsChain f'.now 0) (sym same) (chain_same f.now f'.now 0 f.list (λ n is. (links n is).0) (λ n is. (links n is).1) list.chain);
  lowest = (links 0 (inl refl)).1 ∙ list.lowest;
  rise = subst (Rise 0) (sym same) list.rise;
  within = subst (AllByRecursion (λ (m : ListNode). m.node < l.nodes)) (sym same) list.within;
  named = subst (AllByRecursion (λ (m : ListNode). (name : List ℕ) × IsName name × (m.anchor ≡ key_of name))) (sym same) list.named;
}

-- a merge leaves each status, or makes it GONE
pub merge_gone : {l : Layout} {g : ℕ} (f : Facts) {s : Stage} {a : Action} {x : ℕ} {t : Stage} → (k : Merge l g s a x t) → (n : ℕ)
    → ((merge_after k f).status n ≡ f.status n) ⊎ ((merge_after k f).status n ≡ gone_status)
merge_gone f k n = each_merged f k (λ s t φ. (φ.status n ≡ f.status n) ⊎ (φ.status n ≡ gone_status)) (λ φ list status. inl (ap (λ (u : ℕ → ℕ). u n) status)) (λ h left right now y next. inl refl)
    (λ h left right. ⊎_elim
    (λ (e : n ≡ right.node). inr (ap (λ (b : Bool). cond b gone_status (f.status n)) (eq-eqb n right.node e)))
    (λ (other : n ≢ right.node). inl (ap (λ (b : Bool). cond b gone_status (f.status n)) (ne_eqb n right.node other)))
    (cases_eq n right.node))

module _ {l : Layout} {g : ℕ} (f : Facts) (caller index since : ℕ) where
  split_list : {s : Stage} {a : Action} {x : ℕ} {t : Stage} → (k : Split l g s a x t) → IsList l f → Sure l g f caller index since s → IsList l (split_after k f)
  split_list (fills {y = y} {offset = offset} {fresh = fresh} has positive small within soils told) list mine =
      relist l f (with_word f fresh.node offset y) refl
      (λ n is. links_else f.now fresh.node offset y n (λ e. mine.at.unlisted (subst (IsListed f) e is))) list
  split_list (lights {fresh = fresh} here leads) list mine = record { chain = list.chain; lowest = list.lowest; rise = list.rise; within = list.within; named = list.named }
  split_list (switches {left = left} {fresh = fresh} here small durable soiled cut told means) list mine =
      list_after l f list left.node fresh.node mine.at.listed mine.at.unlisted mine.new.here (map_now f) (cut_now l g f left fresh mine cut)
  split_list (glances_left has learnt) list mine = list
  split_list (glances_fresh has) list mine = list
  split_list (drains_left has small hand cleans) list mine = list
  split_list (drains_fresh has small hand cleans) list mine = list
  split_list (trims {y = y} {left = left} here small durable soiled anchor told means) list mine =
      relist l f (with_word f left.node bitmap_offset y) refl (λ n is. links_content f.now left.node bitmap_offset y (inl refl) n) list

  merge_list : {s : Stage} {a : Action} {x : ℕ} {t : Stage} → (k : Merge l g s a x t) → IsList l f → Sure l g f caller index since s → IsList l (merge_after k f)
  merge_list (meets here same untimed leads) list mine = record { chain = list.chain; lowest = list.lowest; rise = list.rise; within = list.within; named = list.named }
  merge_list (knows_own has positive learnt) list mine = list
  merge_list (knows_right has positive told) list mine = list
  merge_list (copies {n = n} {y = y} {offset = offset} has content small soils learnt means) list mine =
      relist l f (with_word f n offset y) refl (λ m is. links_content f.now n offset y content m) list
  merge_list (takes_up has) list mine = list
  merge_list (puts_down has small hand cleans) list mine = list
  merge_list (parts next) list mine = record { chain = list.chain; lowest = list.lowest; rise = list.rise; within = list.within; named = list.named }
  merge_list (gathers {n = n} {y = y} small durable soiled told gathered) list mine =
      relist l f (with_word f n bitmap_offset y) refl (λ m is. links_content f.now n bitmap_offset y (inl refl) m) list
  merge_list (joins {y = y} {left = left} {right = right} small durable soiled next told) list mine =
      list_past l f list left.node y right.node mine.at.linked.listed mine.at.linked.leads mine.nonzero (next (f.now right.node) mine.other.seen)
  merge_list (glances_joined has learnt) list mine = list
  merge_list (drains_joined has small hand cleans) list mine = list
  merge_list (retires durable) list mine = record { chain = list.chain; lowest = list.lowest; rise = list.rise; within = list.within; named = list.named }
  merge_list (yields next durable) list mine = record { chain = list.chain; lowest = list.lowest; rise = list.rise; within = list.within; named = list.named }

  -- the words make a list
  pub step_list : {s : Stage} {a : Action} {x : ℕ} {t : Stage} {r : Option (Once Placed)} → (k : Step l g s a x t r) → IsList l f → Sure l g f caller index since s
      → IsList l (fact_after k f caller index)
  step_list (looks look) list mine = list
  step_list (locks same named live between) list mine = record { chain = list.chain; lowest = list.lowest; rise = list.rise; within = list.within; named = list.named }
  step_list (locks_read same named live between unworn taken small) list mine = record { chain = list.chain; lowest = list.lowest; rise = list.rise; within = list.within; named = list.named }
  step_list (stores {n = n} {y = y} {offset = offset} has content small clean soils learnt means) list mine =
      relist l f (with_word f n offset y) refl (λ m is. links_content f.now n offset y content m) list
  step_list (commits {n = n} {y = y} {offset = offset} has content small clean durable soiled old about learnt means) list mine =
      relist l f (with_word f n offset y) refl (λ m is. links_content f.now n offset y content m) list
  step_list (drains has small unready hand cleans) list mine = list
  step_list (counts durable ready pending unplaced) list mine = record { chain = list.chain; lowest = list.lowest; rise = list.rise; within = list.within; named = list.named }
  step_list (unlocks next pending durable unready answers) list mine = record { chain = list.chain; lowest = list.lowest; rise = list.rise; within = list.within; named = list.named }
  step_list (claims unplaced here same) list mine = record { chain = list.chain; lowest = list.lowest; rise = list.rise; within = list.within; named = list.named }
  step_list (publishes next left fresh) list mine = record { chain = list.chain; lowest = list.lowest; rise = list.rise; within = list.within; named = list.named }
  step_list (leaves next) list mine = record { chain = list.chain; lowest = list.lowest; rise = list.rise; within = list.within; named = list.named }
  step_list (splits k) list mine = split_list k list mine
  step_list (merges k) list mine = merge_list k list mine

  -- a status stays, or it is that of a node that leads to one of the layout's
  split_status : {s : Stage} {a : Action} {x : ℕ} {t : Stage} → (k : Split l g s a x t) → Sure l g f caller index since s → (m : ℕ)
      → ((split_after k f).status m ≡ f.status m) ⊎ (((split_after k f).status m ≡ live_status) × ((split_after k f).now m next_offset < l.nodes))
  split_status (fills has positive small within soils told) mine m = inl refl
  split_status (lights {fresh = fresh} here leads) mine m = ⊎_elim
      (λ (e : m ≡ fresh.node). inr (
        ap (λ (b : Bool). cond b live_status (f.status m)) (eq-eqb m fresh.node e),
        subst (λ n. f.now n next_offset < l.nodes) (sym e) (leads (f.now fresh.node) mine.new.seen),
      ))
      (λ (other : m ≢ fresh.node). inl (ap (λ (b : Bool). cond b live_status (f.status m)) (ne_eqb m fresh.node other)))
      (cases_eq m fresh.node)
  split_status (switches here small durable soiled cut told means) mine m = inl refl
  split_status (glances_left has learnt) mine m = inl refl
  split_status (glances_fresh has) mine m = inl refl
  split_status (drains_left has small hand cleans) mine m = inl refl
  split_status (drains_fresh has small hand cleans) mine m = inl refl
  split_status (trims here small durable soiled anchor told means) mine m = inl refl

  -- a merge leaves the statuses, or it makes one GONE
  merge_status : {s : Stage} {a : Action} {x : ℕ} {t : Stage} → (k : Merge l g s a x t) → Sure l g f caller index since s → (m : ℕ)
      → ((merge_after k f).status m ≡ f.status m) ⊎ (((merge_after k f).status m ≢ live_status) × (IsListed f m → ⊥) × ((merge_after k f).status m ≤ gone_status))
  merge_status k mine m = each_merged f k
      (λ s t φ. Sure l g f caller index since s → (φ.status m ≡ f.status m) ⊎ ((φ.status m ≢ live_status) × (IsListed f m → ⊥) × (φ.status m ≤ gone_status)))
      (λ φ list status mine. inl (ap (λ (u : ℕ → ℕ). u m) status)) (λ h left right now y next mine. inl refl)
      (λ h left right mine. ⊎_elim
      (λ (e : m ≡ right.node). inr (
        λ lit. absurd (let no : 2 ≡ 1 = sym (ap (λ (b : Bool). cond b gone_status (f.status m)) (eq-eqb m right.node e)) ∙ lit in omega arith),
        λ is. mine.at.unlisted (subst (IsListed f) e is),
        subst (λ u. u ≤ gone_status) (sym (ap (λ (b : Bool). cond b gone_status (f.status m)) (eq-eqb m right.node e))) (omega arith),
      ))
      (λ (other : m ≢ right.node). inl (ap (λ (b : Bool). cond b gone_status (f.status m)) (ne_eqb m right.node other)))
      (cases_eq m right.node))
      mine

  status : {s : Stage} {a : Action} {x : ℕ} {t : Stage} {r : Option (Once Placed)} → (k : Step l g s a x t r) → Sure l g f caller index since s → (m : ℕ)
      → ((fact_after k f caller index).status m ≡ f.status m) ⊎ ((((fact_after k f caller index).status m ≡ live_status) × ((fact_after k f caller index).now m next_offset < l.nodes))
      ⊎ (((fact_after k f caller index).status m ≢ live_status) × (IsListed f m → ⊥) × ((fact_after k f caller index).status m ≤ gone_status)))
  status k mine m = each_after f caller index k
      (λ φ. (φ.status m ≡ f.status m) ⊎ (((φ.status m ≡ live_status) × (φ.now m next_offset < l.nodes)) ⊎ ((φ.status m ≢ live_status) × (IsListed f m → ⊥) × (φ.status m ≤ gone_status))))
      (λ φ list status. inl (ap (λ (u : ℕ → ℕ). u m) status)) (λ k. ⊎_elim (λ same. inl same) (λ lit. inr (inl lit)) (split_status k mine m)) (λ k. ⊎_elim (λ same. inl same) (λ gone. inr (inr gone)) (merge_status k mine m))

  split_members : {s : Stage} {a : Action} {x : ℕ} {t : Stage} → (k : Split l g s a x t) → IsList l f → Sure l g f caller index since s → (m : ℕ)
      → IsListed (split_after k f) m → IsListed f m ⊎ ((split_after k f).status m ≡ live_status)
  split_members (fills has positive small within soils told) list mine m is = inl is
  split_members (lights here leads) list mine m is = inl is
  split_members (switches {left = left} {fresh = fresh} here small durable soiled cut told means) list mine m is = ⊎_elim
      (λ was. inl was)
      (λ e. inr (ap f.status e ∙ mine.at.bright refl))
      (listed_after l f list left.node fresh.node mine.at.listed mine.at.unlisted mine.new.here (map_now f) (cut_now l g f left fresh mine cut) m is)
  split_members (glances_left has learnt) list mine m is = inl is
  split_members (glances_fresh has) list mine m is = inl is
  split_members (drains_left has small hand cleans) list mine m is = inl is
  split_members (drains_fresh has small hand cleans) list mine m is = inl is
  split_members (trims here small durable soiled anchor told means) list mine m is = inl is

  merge_members : {s : Stage} {a : Action} {x : ℕ} {t : Stage} → (k : Merge l g s a x t) → IsList l f → Sure l g f caller index since s → (m : ℕ) → IsListed (merge_after k f) m → IsListed f m
  merge_members k list mine m = each_merged f k (λ s t φ. Sure l g f caller index since s → IsListed φ m → IsListed f m)
      (λ φ listed status mine is. subst (λ (ns : List ListNode). IsIn ns m) listed is)
      (λ h left right now y next mine is. listed_was l f list left.node y right.node mine.at.linked.listed mine.at.linked.leads mine.nonzero (next (f.now right.node) mine.other.seen) m is)
      (λ h left right mine is. is)
      mine

  -- a node that is listed then was listed, or is LIVE
  members : {s : Stage} {a : Action} {x : ℕ} {t : Stage} {r : Option (Once Placed)} → (k : Step l g s a x t r) → IsList l f → Sure l g f caller index since s → (m : ℕ)
      → IsListed (fact_after k f caller index) m → IsListed f m ⊎ ((fact_after k f caller index).status m ≡ live_status)
  members k list mine m = each_after f caller index k (λ φ. IsListed φ m → IsListed f m ⊎ (φ.status m ≡ live_status))
      (λ φ listed status is. inl (subst (λ (ns : List ListNode). IsIn ns m) listed is)) (λ k. split_members k list mine m) (λ k is. inl (merge_members k list mine m is))

  -- the statuses go with the list
  pub step_live : {s : Stage} {a : Action} {x : ℕ} {t : Stage} {r : Option (Once Placed)} → (k : Step l g s a x t r) → IsList l f → Sure l g f caller index since s
      → Sure l g (fact_after k f caller index) caller index since t → AreLive l g f → AreLive l g (fact_after k f caller index)
  step_live {s = s} {t = t} k list mine after live = record {
    live = λ m is. ⊎_elim
        (λ was. ⊎_elim (λ same. same ∙ live.live m was) (λ new. ⊎_elim (λ lit. lit.0) (λ gone. absurd (gone.1 was)) new) (status k mine m))
        (λ lit. lit)
        (members k list mine m is);
    three = λ m here. ⊎_elim
        (λ same. subst (λ u. u ≤ gone_status) (sym same) (live.three m here))
        (λ new. ⊎_elim (λ lit. subst (λ u. u ≤ gone_status) (sym lit.0) (omega arith)) (λ gone. gone.2) new)
        (status k mine m);
    listed = λ m here lit free. ⊎_elim
        (λ (held : HoldsNode t m). absurd (unfree ((fact_after k f caller index).version m) g (own_of l g (fact_after k f caller index) caller index since t m held after) free))
        (λ (gone : HoldsNode t m → ⊥). ⊎_elim
        (λ (held : HoldsNode s m). ⊎_elim (λ there. there.0) (λ out. absurd (out.1 lit)) (given_back f caller index since k list mine m held gone).rest)
        (λ (never : HoldsNode s m → ⊥).
        let steady = steady_else f caller index since k list mine m never gone in
        steady.listed (live.listed m here (sym steady.status ∙ lit) (subst (λ (v : ℕ). IsFree v g) steady.version free)))
        (holds_or s m))
        (holds_or t m);
    leads = λ m here lit. ⊎_elim
        (λ same. lead f caller index since k list mine m (live.leads m here (sym same ∙ lit)))
        (λ new. ⊎_elim (λ lit'. lit'.1) (λ gone. absurd (gone.0 lit)) new)
        (status k mine m);
  }
