-- What a step makes of the list.
use Rattle.std.proofs.Common.{◌≡◌, ℕ, ◌+◌, ◌≤◌, ◌/◌, ◌⊎◌, inl, inr, ⊎_elim, Bool, true, false, List, refl, sym, ap, ◌∙◌, arith}
use Rattle.std.specs.Prelude.{◌||◌, Option, None}
use Rattle.pm_words.specs.declared.layout.Layout.{Layout}
use Rattle.pm_words.specs.declared.action.Action.{Action}
use Rattle.pm_words.specs.Offsets.{next_offset}
use Rattle.data_node.specs.Lists.{anchor_in, with_member}
use Rattle.data_node.specs.Weights.{names_in}
use Rattle.call_stages.specs.declared.once.Once.{Once}
use Rattle.call_stages.specs.declared.once.Placed.{Placed}
use Rattle.call_stages.specs.Stages.{Stage}
use Rattle.call_stages.specs.Kinds.{below_key, IsCut, Split, fills, lights, switches, glances_left, glances_fresh, drains_left, drains_fresh, trims, Merge, from_key, Step}
use Rattle.index_law.specs.Facts.{Facts, map_now, range_of}
use Rattle.index_law.specs.Lawful.{IsList, SureJoins, SureSplits, Sure}
use Rattle.index_law.proofs.Past.{range_right}
use Rattle.index_law.proofs.Splitting.{range_below}
use Rattle.index_law.proofs.Stays.{means_less}
use Rattle.index_law.proofs.Totals.{names_parts}
use Rattle.data_node.proofs.NameCounts.{same_names}
use Rattle.call_stages.specs.Stages.{Held, Grip, Filling, Gathered}
use Rattle.index_law.specs.Shapes.{IsHalved, IsMerged, StepShapes}
use Rattle.call_stages.specs.Prevs.{IsSwitch, IsJoin}
use Rattle.index_law.specs.Worlds.{facts}
use Rattle.index_law.proofs.Locks.{cut_now}
use Rattle.index_law.proofs.Rows.{with_next}
use Rattle.index_law.proofs.Moves.{fact_after, split_after, merge_after, each_after, each_merged, of_step}

or_true : (b : Bool) → (b || true) ≡ true
or_true true = refl
or_true false = refl

-- what the switch of a split makes of the list
abbrev pub switch_halves : (l : Layout) (g : ℕ) (f : Facts) (left fresh : Grip) → SureSplits l g f left fresh (Filling true)
    → IsCut l.slots (range_of l f left.node) (f.now left.node) (f.now fresh.node) (map_now f) → IsHalved l f (with_next f left.node fresh.node).list
switch_halves l g f left fresh knows is = record {
  node = left.node;
  fresh = fresh.node;
  listed = knows.at.listed;
  unlisted = knows.at.unlisted;
  anchor = is.anchor;
  named = is.named;
  inside = is.inside;
  had = is.had;
  full = is.full;
  means = knows.at.settled.means;
  half = ap (λ key. names_in l.slots (below_key (range_of l f left.node) key) (f.now left.node)) (sym is.anchored) ∙ is.half;
  longer = λ i. with_member left.node (record { node = fresh.node; anchor = is.anchored i }) 0 f.list;
}

module _ {l : Layout} {g : ℕ} (f : Facts) (caller index since : ℕ) where
  split_shapes : {s : Stage} {a : Action} {x : ℕ} {t : Stage} → (k : Split l g s a x t) → Sure l g f caller index since s
      → ((split_after k f).list ≡ f.list) ⊎ ((switch : IsSwitch s t) × (halved : IsHalved l f (split_after k f).list) × (halved.node ≡ switch.left.node))
  split_shapes (fills has positive small within soils told) knows = inl refl
  split_shapes (lights here leads) knows = inl refl
  split_shapes (switches {left = left} {fresh = fresh} {seen = seen} {dirty = dirty} here small durable soiled cut told means) knows =
      inr (
        record { left = left; fresh = fresh; after = record left { seen = seen; dirty = dirty; hand = None }; was = refl; is = refl },
        switch_halves l g f left fresh knows (cut_now l g f left fresh knows cut),
        refl,
      )
  split_shapes (glances_left has learnt) knows = inl refl
  split_shapes (glances_fresh has) knows = inl refl
  split_shapes (drains_left has small hand cleans) knows = inl refl
  split_shapes (drains_fresh has small hand cleans) knows = inl refl
  split_shapes (trims here small durable soiled anchor told means) knows = inl refl

  -- the names of the two nodes of a merge
  few_names : (list : IsList l f) (h : Held) (left right : Grip) (y : ℕ) → SureJoins l g f caller index since h left right Gathered → f.now right.node next_offset ≡ y
      → names_in l.slots (range_of l f left.node) (f.now left.node) + names_in l.slots (range_of l f right.node) (f.now right.node) ≤ l.slots / 2
  few_names list h left right y knows on =
      let n = left.node in
      let r = right.node in
      let was = knows.at.linked in
      let both : List ℕ → Bool = λ name. range_of l f n name || range_of l f r name in
      let a : ℕ = anchor_in (f.now r) in
      let low : range_of l f n ≡ below_key both a = range_below l g f caller index since list left right knows.nonzero was in
      let high : range_of l f r ≡ from_key both a = range_right l f list n y r was.listed was.leads knows.nonzero on in
      let parts = names_parts l.slots both a (f.now n) in
      let own = ap (λ (q : List ℕ → Bool). names_in l.slots q (f.now n)) low in
      let moved : names_in l.slots (range_of l f r) (f.now n) ≡ names_in l.slots (from_key both a) (f.now n) = ap (λ (q : List ℕ → Bool). names_in l.slots q (f.now n)) high in
      let same : names_in l.slots (range_of l f r) (f.now n) ≡ names_in l.slots (range_of l f r) (f.now r) =
      same_names l.slots (range_of l f r) (f.now n) (f.now r) (map_now f)
      (means_less l.slots both (range_of l f r) (f.now n) (map_now f) (λ name inside. ap (λ b. range_of l f n name || b) inside ∙ or_true (range_of l f n name)) was.means) was.settled.means in
      let few = knows.at.few in
      omega arith

  merge_shapes : {s : Stage} {a : Action} {x : ℕ} {t : Stage} → (k : Merge l g s a x t) → IsList l f → Sure l g f caller index since s
      → ((merge_after k f).list ≡ f.list) ⊎ ((join : IsJoin s t) × (merged : IsMerged l f (merge_after k f).list) × (merged.node ≡ join.left.node))
  merge_shapes k list = each_merged f k (λ s t φ. Sure l g f caller index since s → (φ.list ≡ f.list) ⊎ ((join : IsJoin s t) × (merged : IsMerged l f φ.list) × (merged.node ≡ join.left.node)))
      (λ φ listed status knows. inl listed)
      (λ h left right now y next knows. inr (
        record { held = h; left = left; right = right; after = now; was = refl; is = refl },
        record {
          node = left.node;
          right = right.node;
          listed = knows.at.linked.listed;
          listed_right = knows.at.linked.listed_fresh;
          leads = knows.at.linked.leads;
          nonzero = knows.nonzero;
          means = knows.at.linked.means;
          together = knows.at.few;
          few = few_names list h left right y knows (next (f.now right.node) knows.other.seen);
          shorter = refl;
        },
        refl,
      ))
      (λ h left right knows. inl refl)

  shapes : {s : Stage} {a : Action} {x : ℕ} {t : Stage} {r : Option (Once Placed)} → (k : Step l g s a x t r) → IsList l f → Sure l g f caller index since s
      → ((fact_after k f caller index).list ≡ f.list) ⊎ (((switch : IsSwitch s t) × (halved : IsHalved l f (fact_after k f caller index).list) × (halved.node ≡ switch.left.node))
      ⊎ ((join : IsJoin s t) × (merged : IsMerged l f (fact_after k f caller index).list) × (merged.node ≡ join.left.node)))
  shapes {s = s} {t = t} k list knows = each_after f caller index k
      (λ φ. (φ.list ≡ f.list) ⊎ (((switch : IsSwitch s t) × (halved : IsHalved l f φ.list) × (halved.node ≡ switch.left.node)) ⊎ ((join : IsJoin s t) × (merged : IsMerged l f φ.list) × (merged.node ≡ join.left.node))))
      (λ φ list status. inl list) (λ k. ⊎_elim (λ same. inl same) (λ cut. inr (inl cut)) (split_shapes k knows)) (λ k. ⊎_elim (λ same. inl same) (λ one. inr (inr one)) (merge_shapes k list knows))

pub step_shapes : StepShapes
step_shapes w i p a x t r lawful there k told = of_step w i p a x t lawful there k told
    (λ (φ : Facts). (φ.list ≡ (facts w).list) ⊎ (((switch : IsSwitch p.stage t) × (halved : IsHalved w.layout (facts w) φ.list) × (halved.node ≡ switch.left.node))
    ⊎ ((join : IsJoin p.stage t) × (merged : IsMerged w.layout (facts w) φ.list) × (merged.node ≡ join.left.node))))
    (λ known. shapes (facts w) p.caller p.index p.since k lawful.list known)
