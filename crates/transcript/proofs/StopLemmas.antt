-- Callers stop once exactly where their stops follow each other.
use Rattle.std.proofs.Common.{◌≡◌, ◌↔◌, ℕ, ◌≤◌, ◌⊎◌, inl, inr, Bool, true, false, List, [], ◌∷◌, map, refl, sym, ap, subst, ◌∙◌, arith}
use Rattle.std.specs.Prelude.{Contains}
use Rattle.std.specs.List.{IsDistinct}
use Rattle.std.specs.Ordering.{eq_by_cmp}
use Rattle.cat_history.specs.CrashRounds.{StopsOnce}
use Rattle.cat_history.specs.Rounds.{IsAnswered}
use Rattle.cat_history.specs.declared.record.Record.{Record}
use Rattle.cat_history.specs.declared.record.Reply.{Reply}
use Rattle.cat_history.specs.declared.record.Reply.TheVariants.{Old, Parts, Full, Spent, Cut, Unstarted}
use Rattle.transcript.specs.Calls.{HaveKeysApart, key_cmp, key_of, calls_told}
use Rattle.transcript.specs.Spans.{FollowEachOther, key_in, as_number, is_unstarted, is_unanswered, stop_of, stops_of}
use Rattle.transcript.specs.declared.spans.Span.{Span}
use Rattle.transcript.proofs.Orders.{map_has, first_or_later, first_has, later_has, none_has}

keys_same : (told : List Record) → map key_of (calls_told told) ≡ map key_in (stops_of told)
keys_same [] = refl
keys_same (r ∷ told) = ap (λ (keys : List (ℕ × ℕ)). (r.caller, r.index) ∷ keys) (keys_same told)

pub stops_apart : (told : List Record) → HaveKeysApart told → IsDistinct (eq_by_cmp key_cmp) (map key_in (stops_of told))
stops_apart told apart = subst (IsDistinct (eq_by_cmp key_cmp)) (keys_same told) apart

-- what stands among the images is the image of one of them
made_of : {A B : Type 0} (f : A → B) (l : List A) (b : B) → Contains (map f l) b → (a : A) × Contains l a × (f a ≡ b)
made_of f [] b has = absurd (none_has b has)
made_of f (a ∷ l) b has = elim (first_or_later (f a) (map f l) b has) [
  | inl is ↦ (a, first_has a l, is)
  | inr later ↦ let one = made_of f l b later in (one.0, later_has a l one.0 one.1, one.2)
]

begun_not : (s : Reply) → 1 ≤ as_number (is_unstarted s) → s ≡ Unstarted
begun_not (Old old place) le = absurd (omega arith)
begun_not (Parts parts cut) le = absurd (omega arith)
begun_not Full le = absurd (omega arith)
begun_not (Spent clock) le = absurd (omega arith)
begun_not (Cut mark) le = absurd (omega arith)
begun_not Unstarted le = refl

answered_or : (r s : Reply) → as_number (is_unanswered r) ≤ as_number (is_unstarted s) → IsAnswered r ⊎ (s ≡ Unstarted)
answered_or (Old old place) s le = inl tt
answered_or (Parts parts false) s le = inl refl
answered_or (Parts parts true) s le = inr (begun_not s le)
answered_or Full s le = inl tt
answered_or (Spent clock) s le = inl tt
answered_or (Cut mark) s le = inr (begun_not s le)
answered_or Unstarted s le = inr (begun_not s le)

few : (b : Bool) → as_number b ≤ 1
few true = omega arith
few false = omega arith

or_answered : (r s : Reply) → IsAnswered r ⊎ (s ≡ Unstarted) → as_number (is_unanswered r) ≤ as_number (is_unstarted s)
or_answered r s (inr unstarted) = subst (λ (t : Reply). as_number (is_unanswered r) ≤ as_number (is_unstarted t)) (sym unstarted) (few (is_unanswered r))
or_answered (Old old place) s (inl answered) = omega arith
or_answered (Parts parts cut) s (inl answered) = subst (λ (b : Bool). as_number b ≤ as_number (is_unstarted s)) (sym answered) (omega arith)
or_answered Full s (inl answered) = omega arith
or_answered (Spent clock) s (inl answered) = omega arith
or_answered (Cut mark) s (inl answered) = absurd answered
or_answered Unstarted s (inl answered) = absurd answered

pub stops_are : (told : List Record) → FollowEachOther (stops_of told) ↔ StopsOnce told
stops_are told = (
  λ follow r s has_r has_s same less. answered_or r.reply s.reply (follow (stop_of r) (stop_of s) (map_has stop_of told r has_r) (map_has stop_of told s has_s) same less),
  λ once a b has_a has_b same less.
      let r = made_of stop_of told a has_a in
      let s = made_of stop_of told b has_b in
      let callers : r.0.caller ≡ s.0.caller = ap (λ (t : Span). t.caller) r.2 ∙ same ∙ sym (ap (λ (t : Span). t.caller) s.2) in
      let first : r.0.index ≡ a.index = ap (λ (t : Span). t.index) r.2 in
      let second : s.0.index ≡ b.index = ap (λ (t : Span). t.index) s.2 in
      let le = or_answered r.0.reply s.0.reply (once r.0 s.0 r.1 s.1 callers (omega arith)) in
      let end : (stop_of r.0).end ≡ a.end = ap (λ (t : Span). t.end) r.2 in
      let start : (stop_of s.0).start ≡ b.start = ap (λ (t : Span). t.start) s.2 in
      omega arith,
)
