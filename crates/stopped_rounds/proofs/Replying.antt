-- What one call of a round comes to.
use Rattle.std.proofs.Common.{◌≡◌, ℕ, zero, suc, inl, inr, ⊎_elim, ◌<◌, ◌≤◌, Bool, true, false, List, [], ◌∷◌, Ok, Err, refl, sym, ap, subst, ◌∙◌, arith}
use Rattle.std.proofs.lemmas.Bool.{cases_lt}
use Rattle.std.specs.Prelude.{Option, Some, None, Contains, MatchResult, Result}
use Rattle.cat_history.specs.Maps.{at}
use Rattle.cat_history.specs.Rounds.{IsWriter}
use Rattle.cat_history.specs.declared.op.Change.{Change}
use Rattle.cat_history.specs.declared.op.Change.TheVariants as change
use Rattle.cat_history.specs.declared.op.Op.{Op}
use Rattle.cat_history.specs.declared.op.Op.TheVariants.{Put, Get, Del, Scan}
use Rattle.cat_history.specs.declared.record.CutMark.TheVariants.{At, Open, Read}
use Rattle.cat_history.specs.declared.record.Reply.{Reply}
use Rattle.cat_history.specs.declared.record.Reply.TheVariants.{Old, Parts, Full, Cut}
use Rattle.cat_history.specs.declared.record.ScanPart.{ScanPart}
use Rattle.shapes.specs.declared.map.Full.{Full as FullError}
use Rattle.shapes.specs.ShapeRounds.{one_added}
use Rattle.stopped_rounds.specs.Bounded.{ComesTo, MapState, IsSame, PutGave, DelGave, WasCut, put_added}
use Rattle.stopped_rounds.specs.Replies.{write_mark, IsLate, WasAnswered, WasCutOff, Replies}
use Rattle.stopped_rounds.specs.Stops.{IsScanSoFar}
use Rattle.stopped_rounds.specs.declared.bounded_map.Bounded.{Bounded}
use Rattle.stopped_rounds.specs.declared.bounded_map.Bounded.TheVariants as bounded

in_time : (limit place : ℕ) (op : Op) → (IsLate limit place op → ⊥) → IsWriter op → place < limit
in_time limit place op timely writes = ⊎_elim (λ (less : place < limit). less) (λ (late : limit ≤ place). absurd (timely (writes, late))) (cases_lt place limit)

sole_change : (a b : Change) → Contains (a ∷ []) b → a ≡ b
sole_change a b (zero, within, is) = is
sole_change a b (suc k, within, is) = absurd (omega (arith, within))

no_change : (cut : List Change) (c : Change) → cut ≡ [] → Contains cut c → ⊥
no_change cut c none has = let empty : Contains [] c = subst (λ (l : List Change). Contains l c) none has in omega (arith, empty.1)

module _ (slots most limit : ℕ) (s new : MapState) (place budget left : ℕ) (reply : Reply) (some : 0 < budget) (uncut : s.cut ≡ []) where
  answered : (op : Op) (r : Reply) → reply ≡ r → WasAnswered slots most limit s place op r new → Replies slots most limit s place op budget reply left new
  answered op r is was = inr (some, inl (subst (λ (q : Reply). WasAnswered slots most limit s place op q new) (sym is) was))

  cut_off : (op : Op) (r : Reply) → left ≡ 0 → reply ≡ r → WasCutOff limit s place op r new → Replies slots most limit s place op budget reply left new
  cut_off op r spent is was = inr (some, inr (spent, subst (λ (q : Reply). WasCutOff limit s place op q new) (sym is) was))

  pub put_replies : (name : List ℕ) (value : ℕ) (ended : Bounded (Result (Option ℕ) FullError)) → (IsLate limit place (Put name value) → ⊥) →
      ComesTo ended (λ answer. PutGave slots most s name value answer new) (λ placed. (left ≡ 0) × WasCut s (change.Put name value) placed new) →
      ComesTo ended (λ answer. MatchResult answer (λ old. reply ≡ Old old place) (λ _. reply ≡ Full)) (λ placed. reply ≡ Cut (write_mark placed place)) →
      Replies slots most limit s place (Put name value) budget reply left new
  put_replies name value (bounded.Answered (Ok old)) timely (room, old_is, contents, anchors, cut) is = answered (Put name value) (Old old place) is (record {
    now = (old_is, refl);
    spent = (λ spent. absurd spent, λ late. absurd (timely late));
    full = (λ full. absurd (cc), λ full. absurd (room full.1));
    bounds = tt;
    left = λ caller index. contents;
    anchors = anchors;
    cut = cut;
  })
  put_replies name value (bounded.Answered (Err e)) timely (full, same) is = answered (Put name value) Full is (record {
    now = tt;
    spent = (λ spent. absurd spent, λ late. absurd (timely late));
    full = (λ _. (timely, full), λ _. refl);
    bounds = tt;
    left = λ caller index. same.0;
    anchors = same.1;
    cut = same.2;
  })
  put_replies name value (bounded.Cut true) timely (spent, kept) is = cut_off (Put name value) (Cut (At place)) spent is (record {
    now = (λ e. cc, refl, in_time limit place (Put name value) timely);
    left = λ caller index. kept.0;
    cut = λ c has. absurd (no_change [] c refl (kept.1 c has));
  })
  put_replies name value (bounded.Cut false) timely (spent, kept) is = cut_off (Put name value) (Cut Open) spent is (record {
    now = (λ e. cc, tt, in_time limit place (Put name value) timely);
    left = λ caller index. kept.0;
    cut = λ c has. ap (λ (d : Change). Some d) (sole_change (change.Put name value) c (kept.1 c has));
  })

  pub del_replies : (name : List ℕ) (ended : Bounded (Option ℕ)) → (IsLate limit place (Del name) → ⊥) →
      ComesTo ended (λ old. DelGave slots s name old new) (λ placed. (left ≡ 0) × WasCut s (change.Del name) placed new) →
      ComesTo ended (λ old. reply ≡ Old old place) (λ placed. reply ≡ Cut (write_mark placed place)) →
      Replies slots most limit s place (Del name) budget reply left new
  del_replies name (bounded.Answered old) timely gave is = answered (Del name) (Old old place) is (record {
    now = (gave.old_is, refl);
    spent = (λ spent. absurd spent, λ late. absurd (timely late));
    full = (λ full. absurd (cc), λ full. absurd full.1);
    bounds = tt;
    left = λ caller index. gave.contents;
    anchors = gave.anchors;
    cut = gave.cut;
  })
  del_replies name (bounded.Cut true) timely (spent, kept) is = cut_off (Del name) (Cut (At place)) spent is (record {
    now = (λ e. cc, refl, in_time limit place (Del name) timely);
    left = λ caller index. kept.0;
    cut = λ c has. absurd (no_change [] c refl (kept.1 c has));
  })
  del_replies name (bounded.Cut false) timely (spent, kept) is = cut_off (Del name) (Cut Open) spent is (record {
    now = (λ e. cc, tt, in_time limit place (Del name) timely);
    left = λ caller index. kept.0;
    cut = λ c has. ap (λ (d : Change). Some d) (sole_change (change.Del name) c (kept.1 c has));
  })

  pub get_replies : (name : List ℕ) (ended : Bounded (Option ℕ)) → IsSame s new → ComesTo ended (λ number. number ≡ at s.contents name) (λ placed. left ≡ 0) →
      ComesTo ended (λ old. reply ≡ Old old place) (λ placed. reply ≡ Cut Read) → Replies slots most limit s place (Get name) budget reply left new
  get_replies name (bounded.Answered old) same number is = answered (Get name) (Old old place) is (record {
    now = (number, refl);
    spent = (λ spent. absurd spent, λ late. absurd late.0);
    full = (λ full. absurd (cc), λ full. absurd full.1);
    bounds = tt;
    left = λ caller index. same.0;
    anchors = same.1;
    cut = same.2;
  })
  get_replies name (bounded.Cut placed) same spent is = cut_off (Get name) (Cut Read) spent is (record {
    now = (refl, tt, λ writes. absurd writes);
    left = λ caller index. same.0;
    cut = λ c has. absurd (no_change new.cut c (same.2 ∙ uncut) has);
  })

  pub scan_replies : (from : List ℕ) (count : ℕ) (parts : List ScanPart) (cut : Bool) → IsSame s new → IsScanSoFar s from count place cut parts → (cut ≡ true → left ≡ 0) → reply ≡ Parts parts cut →
      Replies slots most limit s place (Scan from count) budget reply left new
  scan_replies from count parts false same read spent is = answered (Scan from count) (Parts parts false) is (record {
    now = (refl, read.legal, read.at_once);
    spent = (λ spent. absurd spent, λ late. absurd late.0);
    full = (λ full. absurd (cc), λ full. absurd full.1);
    bounds = read.ends;
    left = λ caller index. same.0;
    anchors = same.1;
    cut = same.2;
  })
  scan_replies from count parts true same read spent is = cut_off (Scan from count) (Parts parts true) (spent refl) is (record {
    now = (refl, read.legal, read.at_once);
    left = λ caller index. same.0;
    cut = λ c has. absurd (no_change new.cut c (same.2 ∙ uncut) has);
  })

-- ---- what it adds

pub put_weighs : (name : List ℕ) (value place : ℕ) (ended : Bounded (Result (Option ℕ) FullError)) (reply : Reply) →
    ComesTo ended (λ answer. MatchResult answer (λ old. reply ≡ Old old place) (λ _. reply ≡ Full)) (λ placed. reply ≡ Cut (write_mark placed place)) →
    put_added ended ≡ one_added (Put name value) reply
put_weighs name value place (bounded.Answered (Ok None)) reply is = sym (ap (one_added (Put name value)) is)
put_weighs name value place (bounded.Answered (Ok (Some old))) reply is = sym (ap (one_added (Put name value)) is)
put_weighs name value place (bounded.Answered (Err e)) reply is = sym (ap (one_added (Put name value)) is)
put_weighs name value place (bounded.Cut placed) reply is = sym (ap (one_added (Put name value)) is)
