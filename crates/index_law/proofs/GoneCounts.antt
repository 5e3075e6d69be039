-- How many nodes are GONE after a step.
use Rattle.std.proofs.Common.{◌≡◌, ◌≢◌, ℕ, zero, suc, ◌+◌, ◌<◌, ◌==◌, ◌⊎◌, inl, inr, ⊎_elim, cond, if◌then◌else◌, Option, refl, sym, ap, ◌∙◌, arith}
use Rattle.std.proofs.lemmas.Bool.{cases_eq, eq-eqb, ne_eqb}
use Rattle.pm_words.specs.Codes.{live_status, gone_status}
use Rattle.pm_words.specs.declared.layout.Layout.{Layout}
use Rattle.pm_words.specs.declared.action.Action.{Action}
use Rattle.call_stages.specs.declared.once.Once.{Once}
use Rattle.call_stages.specs.declared.once.Placed.{Placed}
use Rattle.call_stages.specs.Stages.{Stage}
use Rattle.call_stages.specs.Kinds.{Step, Split, Merge}
use Rattle.call_stages.specs.Kinds as kinds
use Rattle.index_law.specs.Facts.{Facts}
use Rattle.index_law.specs.Worlds.{facts}
use Rattle.index_law.specs.Lawful.{Sure}
use Rattle.call_stages.specs.Prevs.{IsRetire}
use Rattle.index_law.specs.Anchors.{gone_nodes}
use Rattle.index_law.specs.LoneShapes.{StepCountsGone}
use Rattle.index_law.proofs.Moves.{fact_after, split_after, merge_after, each_after, each_merged, of_step}

-- ---- of two facts

gone-alike : (n : ℕ) (f f' : Facts) → ((k : ℕ) → k < n → (f'.status k == gone_status) ≡ (f.status k == gone_status)) → gone_nodes n f' ≡ gone_nodes n f
gone-alike zero f f' same = refl
gone-alike (suc n) f f' same =
    let rest = gone-alike n f f' (λ k below. same k (omega arith)) in
    let here = ap (λ b. if b then 1 else 0) (same n (omega arith)) in
    (λ i. here i + rest i)

gone-one : (n m : ℕ) (f f' : Facts) → m < n → ((k : ℕ) → k ≢ m → f'.status k ≡ f.status k) → f'.status m ≡ gone_status → f.status m ≢ gone_status → gone_nodes n f' ≡ gone_nodes n f + 1
gone-one zero m f f' below others is wasnt = absurd (omega arith)
gone-one (suc n) m f f' below others is wasnt =
    ⊎_elim
    (λ (last : n ≡ m).
    let now = ap (λ b. if b then 1 else 0) (eq-eqb (f'.status n) gone_status (ap f'.status last ∙ is)) in
    let was = ap (λ b. if b then 1 else 0) (ne_eqb (f.status n) gone_status (λ e. wasnt (sym (ap f.status last) ∙ e))) in
    let rest = gone-alike n f f' (λ k under. ap (λ s. s == gone_status) (others k (λ e. omega arith))) in
    let sum : 1 + gone_nodes n f ≡ 0 + gone_nodes n f + 1 = omega arith in
    (λ i. now i + rest i) ∙ sum ∙ (λ i. sym was i + gone_nodes n f + 1))
    (λ (other : n ≢ m).
    let here = ap (λ s. if s == gone_status then 1 else 0) (others n other) in
    let rest = gone-one n m f f' (omega arith) others is wasnt in
    let sum : (k : ℕ) → k + (gone_nodes n f + 1) ≡ k + gone_nodes n f + 1 = λ k. omega arith in
    (λ i. here i + rest i) ∙ sum (if f.status n == gone_status then 1 else 0))
    (cases_eq n m)

-- ---- by kinds

-- The statuses are GONE as before, or the step makes one more so.
record OneGone (most : ℕ) (s t : Stage) (f f' : Facts) : Type 0 where
  pub retire : IsRetire s t
  pub node : ℕ
  pub within : node < most
  pub others : (k : ℕ) → k ≢ node → f'.status k ≡ f.status k
  pub is : f'.status node ≡ gone_status
  pub wasnt : f.status node ≢ gone_status

abbrev Goes : ℕ → Stage → Stage → Facts → Facts → Type 0
Goes most s t f f' = ((k : ℕ) → (f'.status k == gone_status) ≡ (f.status k == gone_status)) ⊎ OneGone most s t f f'

module _ {l : Layout} {g : ℕ} (f : Facts) (caller index since : ℕ) where
  split_goes : {s : Stage} {a : Action} {x : ℕ} {t : Stage} → (k : Split l g s a x t) → Sure l g f caller index since s → Goes l.nodes s t f (split_after k f)
  split_goes (kinds.fills has positive small within soils told) knows = inl (λ k. refl)
  split_goes (kinds.lights {fresh = fresh} here leads) knows = inl (λ k. ⊎_elim
      (λ (e : k ≡ fresh.node).
      ap (λ b. cond b live_status (f.status k) == gone_status) (eq-eqb k fresh.node e)
      ∙ sym (ne_eqb (f.status k) gone_status (λ gone. let free = knows.at.dark refl in let no : 0 ≡ 2 = sym free ∙ sym (ap f.status e) ∙ gone in omega arith)))
      (λ (other : k ≢ fresh.node). ap (λ b. cond b live_status (f.status k) == gone_status) (ne_eqb k fresh.node other))
      (cases_eq k fresh.node))
  split_goes (kinds.switches here small durable soiled cut told means) knows = inl (λ k. refl)
  split_goes (kinds.glances_left has learnt) knows = inl (λ k. refl)
  split_goes (kinds.glances_fresh has) knows = inl (λ k. refl)
  split_goes (kinds.drains_left has small hand cleans) knows = inl (λ k. refl)
  split_goes (kinds.drains_fresh has small hand cleans) knows = inl (λ k. refl)
  split_goes (kinds.trims here small durable soiled anchor told means) knows = inl (λ k. refl)

  merge_goes : {s : Stage} {a : Action} {x : ℕ} {t : Stage} → (k : Merge l g s a x t) → Sure l g f caller index since s → Goes l.nodes s t f (merge_after k f)
  merge_goes k = each_merged f k (λ s t φ. Sure l g f caller index since s → Goes l.nodes s t f φ) (λ φ list status knows. inl (λ n. ap (λ (u : ℕ → ℕ). u n == gone_status) status))
      (λ h left right now y next knows. inl (λ n. refl))
      (λ h left right knows. inr (record {
        retire = record { held = h; left = left; right = right; was = refl; is = refl };
        node = right.node;
        within = knows.other.here;
        others = λ k other. ap (λ b. cond b gone_status (f.status k)) (ne_eqb k right.node other);
        is = ap (λ b. cond b gone_status (f.status right.node)) (eq-eqb right.node right.node refl);
        wasnt = λ gone. let no : 1 ≡ 2 = sym knows.at.bright ∙ gone in omega arith;
      }))

  goes : {s : Stage} {a : Action} {x : ℕ} {t : Stage} {r : Option (Once Placed)} → (k : Step l g s a x t r) → Sure l g f caller index since s → Goes l.nodes s t f (fact_after k f caller index)
  goes {s = s} {t = t} k knows = each_after f caller index k (λ φ. Goes l.nodes s t f φ) (λ φ list status. inl (λ n. ap (λ (u : ℕ → ℕ). u n == gone_status) status)) (λ k. split_goes k knows) (λ k. merge_goes k knows)

pub step_counts_gone : StepCountsGone
step_counts_gone w i p a x t r lawful there k told =
    let l = w.layout in
    let f = facts w in
    of_step w i p a x t lawful there k told
    (λ (φ : Facts). (gone_nodes l.nodes φ ≡ gone_nodes l.nodes f) ⊎ (IsRetire p.stage t × (gone_nodes l.nodes φ ≡ gone_nodes l.nodes f + 1)))
    (λ known. ⊎_elim
    (λ stays. inl (gone-alike l.nodes f (fact_after k f p.caller p.index) (λ n below. stays n)))
    (λ (one : OneGone l.nodes p.stage t f (fact_after k f p.caller p.index)). inr (one.retire, gone-one l.nodes one.node f (fact_after k f p.caller p.index) one.within one.others one.is one.wasnt))
    (goes f p.caller p.index p.since k known))
