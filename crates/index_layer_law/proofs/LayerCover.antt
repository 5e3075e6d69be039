-- What the search layer of an index leads to.
use Rattle.std.proofs.Common.{◌≡◌, ℕ, true, inl, refl, subst}
use Rattle.data_node.specs.Lists.{anchor_in}
use Rattle.index_law.specs.Facts.{Facts, IsListed}
use Rattle.index_law.specs.Worlds.{World, facts}
use Rattle.layer_map.specs.Layers.{Layer}
use Rattle.updater_law.specs.Covered.{IsCovered}
use Rattle.updater_law.specs.Covers.{IsOpenFor}
use Rattle.updater_law.specs.Facts.{TurnTerms, TurnFacts}
use Rattle.updater_law.specs.Facts as turn
use Rattle.updater_law.specs.Lawful.{TurnLawful}
use Rattle.updater_law.specs.TurnStages.{TurnStage}
use Rattle.updater_law.proofs.Crash.{crash_is_covered, is_covered_now}
use Rattle.updater_row_law.specs.Columns as rows
use Rattle.updater_row_law.specs.RowStages.{turn_stage}
use Rattle.updater_row_law.specs.Turnings.{Turning}
use Rattle.index_layer_law.specs.Turnings.{is_listed, terms_of}
use Rattle.index_layer_law.specs.Layers.{turn_facts}
use Rattle.index_layer_law.specs.Laws.{LayerIsCovered}
use Rattle.index_layer_law.proofs.FactTies.{facts_tie, listed_told, listed_tells}

-- covered by the list, in the words of either law
as_listed : (f : Facts) (layer : Layer) (exempt : ℕ → Type 0) → IsCovered (λ n. is_listed f n ≡ true) (λ n. anchor_in (f.now n)) layer exempt
    → IsCovered (IsListed f) (λ n. anchor_in (f.now n)) layer exempt
as_listed f layer exempt covered key node closed =
    let here = covered key node closed in (
      λ leads. let found = here.0 leads in (listed_told f node found.0, found.1),
      λ has. here.1 (listed_tells f node has.0, has.1),
    )

pub layer_is_covered : LayerIsCovered
layer_is_covered z is =
    let w : World = z.whole.world in
    let t : Turning = is.active.1 in
    let terms : TurnTerms = rows.terms_of (terms_of w t) in
    let stage : TurnStage = turn_stage t.stage in
    let known : TurnFacts = turn_facts w is.holder t in
    let law : TurnLawful terms known stage = (is.rows is.active.0 t is.active.2 is.active.3).law in
    let path = facts_tie w is.holder t in
    let now = subst (λ (g : TurnFacts). IsCovered (turn.IsListed g) g.anchor g.layer (IsOpenFor g.line)) path (is_covered_now terms known stage law) in
    let safe = subst (λ (g : TurnFacts). IsCovered (turn.IsListed g) g.anchor g.safe_layer (IsOpenFor g.safe_line)) path
    (crash_is_covered terms known stage known.listed known.anchor law (record { hidden = λ n is_listed. inl (is_listed, refl); shown = λ n is_listed. inl (is_listed, refl) })) in
    record { cached = λ key node closed. as_listed (facts w) _ _ now key node closed; durable = λ key node closed. as_listed (facts w) _ _ safe key node closed }
