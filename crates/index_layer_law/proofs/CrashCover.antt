-- What the durable words of an index's search layer lead to.
use Rattle.std.proofs.Common.{◌≡◌, ℕ, true, inl, inr, ⊎_elim, Option, Some, None, sym, subst}
use mathlib.Core.Option.{some}
use lib.ListN.{get_elem?}
use Rattle.data_node.specs.Lists.{anchor_in, IsIn}
use Rattle.call_stages.specs.Stages.{Stage, IsSwitched}
use Rattle.call_stages.specs.Lines.{HeldLine}
use Rattle.index_law.specs.Facts.{Facts, durable_spot, IsListed}
use Rattle.index_law.specs.Worlds.{Party, World, facts}
use Rattle.index_law.specs.Laws.{HasLinked, HasJoined, durable_list, IsDurableList}
use Rattle.index_law.proofs.Durable.{durable_law}
use Rattle.updater_law.specs.Covered.{IsCovered}
use Rattle.updater_law.specs.Covers.{IsOpenFor}
use Rattle.updater_law.specs.Facts.{TurnTerms, TurnFacts}
use Rattle.updater_law.specs.Lawful.{TurnLawful}
use Rattle.updater_law.specs.Laws.{IsPending}
use Rattle.updater_law.proofs.Crash.{crash_is_covered}
use Rattle.updater_row_law.specs.Columns.{lines_in}
use Rattle.updater_row_law.specs.Columns as rows
use Rattle.updater_row_law.specs.RowStages.{turn_stage}
use Rattle.updater_row_law.specs.Turnings.{Turning}
use Rattle.index_layer_law.specs.Turnings.{is_listed, line_number, terms_of}
use Rattle.index_layer_law.specs.Layers.{Layered, CoversNode, IsLayered}
use Rattle.index_layer_law.specs.Laws.{CrashLeadsAsListed}
use Rattle.index_layer_law.proofs.FactTies.{rest_in, known, facts_tie, listed_told, listed_tells}

module _ (z : Layered) (is : IsLayered z) where
  abbrev w : World
  w = z.whole.world

  abbrev listed : Facts
  listed = record (facts w) { list = durable_list w }

  abbrev F : TurnFacts
  F = known w.layout w.generation (facts w) is.holder (rest_in w.layout w.words)

  abbrev anchor : ℕ → ℕ
  anchor n = anchor_in (durable_spot w.layout w.words n)

  durable : IsDurableList w
  durable = durable_law w is.whole.joint.lawful

  open_for : (line : Option HeldLine) (n : ℕ) → CoversNode w line n → IsOpenFor F.safe_line (F.anchor n)
  open_for None n covers = absurd covers
  open_for (Some e) n covers = record { line = line_number e; state = covers.1.safe_state; anchor = covers.1.safe_anchor }

  -- while a switch may not be durable, a durable line has its node's anchor
  switched_open : (i : ℕ) (p : Party) (n : ℕ) → get_elem? w.parties i ≡ some p → IsSwitched p.stage n → IsOpenFor F.safe_line (F.anchor n)
  switched_open i p n there is_switched = let covering = is.switched i p n there is_switched in open_for covering.0 n covering.2

  linked_open : (n : ℕ) → HasLinked w.parties n → IsOpenFor F.safe_line (F.anchor n)
  linked_open n has = switched_open has.number has.party n has.there (subst (λ (s : Stage). IsSwitched s n) (sym has.stage) has.is)

  joined_open : (n : ℕ) → HasJoined w.parties n → IsOpenFor F.safe_line (F.anchor n)
  joined_open n has = switched_open has.number has.party n has.there (subst (λ (s : Stage). IsSwitched s n) (sym has.stage) has.is)

  pending : IsPending F (is_listed listed) anchor
  pending = record {
    hidden = λ n told.
        let here = listed_told (facts w) n told in
        ⊎_elim
        (λ (there : IsIn (durable_list w) n). inl (listed_tells listed n there, durable.anchors n (inl here)))
        (λ linked. inr (linked_open n linked))
        (durable.hides n here);
    shown = λ n told.
        let there = listed_told listed n told in
        let same = durable.anchors n (inr there) in
        ⊎_elim
        (λ (here : IsListed (facts w) n). inl (listed_tells (facts w) n here, same))
        (λ joined. inr (subst (IsOpenFor F.safe_line) (sym same) (joined_open n joined)))
        (durable.listed n there);
  }

  covered : IsCovered (IsIn (durable_list w)) anchor F.safe_layer (IsOpenFor F.safe_line)
  covered = λ key node closed. let here = all key node closed in (
    λ leads. let found = here.0 leads in (listed_told listed node found.0, found.1),
    λ has. here.1 (listed_tells listed node has.0, has.1),
  )
    where
      t : Turning
      t = is.active.1

      terms : TurnTerms
      terms = rows.terms_of (terms_of w t)

      law : TurnLawful terms F (turn_stage t.stage)
      law = subst (λ (g : TurnFacts). TurnLawful terms g (turn_stage t.stage)) (facts_tie w is.holder t) (is.rows is.active.0 t is.active.2 is.active.3).law

      all : IsCovered (λ n. is_listed listed n ≡ true) anchor F.safe_layer (IsOpenFor F.safe_line)
      all = crash_is_covered terms F (turn_stage t.stage) (is_listed listed) anchor law pending

pub crash_leads_as_listed : CrashLeadsAsListed
crash_leads_as_listed z is = covered z is
