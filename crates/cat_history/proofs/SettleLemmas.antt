-- A round that stopped at a crash is a crash round once its open marks are settled.
use Rattle.std.proofs.Common.{◌≡◌, ◌≢◌, ℕ, suc, ◌<◌, ◌≤◌, ◌⊎◌, inl, inr, Bool, true, false, Option, Some, None, List, [], ◌∷◌, length, get_or, map, refl, sym, ap, subst, ◌∙◌, arith, All}
use Rattle.std.proofs.lemmas.List.{get_or-map, get_or_default, length-map}
use Rattle.std.proofs.lemmas.List.Elements.{All-map}
use Rattle.std.specs.Prelude.{Contains, IfSome, cond, option_map}
use Rattle.std.specs.List.{filter_map, cons_option, enumerate_from}
use Rattle.std.specs.List.Sorted.{IsPermutation}
use Rattle.cat_history.specs.Maps.{Map}
use Rattle.cat_history.specs.Writes.{after_all}
use Rattle.cat_history.specs.Records.{Call, call_of, change_asked, place_of, placed_write, Interval, interval, interval_told}
use Rattle.cat_history.specs.Rounds.{IsItsMark, IsAnswer, IsAnswered, KeepsCallersOrder}
use Rattle.cat_history.specs.CrashEnds.{IsCrashEnd}
use Rattle.cat_history.specs.CrashRounds.{StopsOnce, KeepsBudget, change_cut, Says, ReplySays, IsUnsettled, is_shown, settled_mark, settled_reply, settled, SettledIsCrashRound}
use Rattle.cat_history.specs.declared.op.Change.{Change}
use Rattle.cat_history.specs.declared.op.Op.{Op}
use Rattle.cat_history.specs.declared.op.Op.TheVariants.{Put, Get, Del, Scan}
use Rattle.cat_history.specs.declared.op.Write.{Write}
use Rattle.cat_history.specs.declared.record.CutMark.{CutMark}
use Rattle.cat_history.specs.declared.record.CutMark.TheVariants.{At, Open, Found, Lost, Read}
use Rattle.cat_history.specs.declared.record.Record.{Record}
use Rattle.cat_history.specs.declared.record.Reply.{Reply}
use Rattle.cat_history.specs.declared.record.Reply.TheVariants.{Old, Parts, Full, Spent, Cut, Unstarted}
use Rattle.cat_history.proofs.CrashEndLemmas.{by_found}

-- what one function gives of each element, it gives of what the other makes of it
pub alike : {A B : Type 0} (f : A → A) (g : A → B) → ((a : A) → g (f a) ≡ g a) → (l : List A) → map g (map f l) ≡ map g l
alike f g same [] = refl
alike f g same (a ∷ l) = λ i. same a i ∷ alike f g same l i

pub alike_given : {A B : Type 0} (f : A → A) (g : A → Option B) → ((a : A) → g (f a) ≡ g a) → (l : List A) → filter_map g (map f l) ≡ filter_map g l
alike_given f g same [] = refl
alike_given f g same (a ∷ l) = λ i. cons_option (same a i) (alike_given f g same l i)

-- a list whose every element is what one of another list's becomes is what that list becomes
pub all_made : (f : Record → Record) (xs ys : List Record) → length xs ≡ length ys → ((k : ℕ) → k < length ys → (d e : Record) → get_or xs k d ≡ f (get_or ys k e)) → xs ≡ map f ys
all_made f [] [] size each = refl
all_made f [] (y ∷ ys) size each = absurd (omega arith)
all_made f (x ∷ xs) [] size each = absurd (omega arith)
all_made f (x ∷ xs) (y ∷ ys) size each =
    let rest = all_made f xs ys (omega arith) (λ k within. each (suc k) (omega arith)) in
    λ i. each 0 (omega arith) x y i ∷ rest i

-- what stands among the images is the image of one of them
made_of : {A : Type 0} (f : A → A) (l : List A) (b : A) → Contains (map f l) b → (a : A) × Contains l a × (f a ≡ b)
made_of f l b has =
    let within : has.0 < length l = (let less = has.1 in omega (arith, length-map l f)) in
    let a = get_or l has.0 b in
    (a, (has.0, within, get_or_default l has.0 a b within), sym (get_or-map f l has.0 b b within) ∙ has.2)

module _ (end : Map) where
  -- what is told alike of a mark that says nothing, of a found one and of a lost one is told alike of the settled mark
  mark-alike : {A : Type 0} (told : CutMark → A) → told Found ≡ told Open → told Lost ≡ told Open → (change : Option Change) (mark : CutMark) →
      told (settled_mark end change mark) ≡ told mark
  mark-alike told found lost change (At place) = refl
  mark-alike told found lost change Open = by (is_shown end change) where
    by : (b : Bool) → told (cond b Found Lost) ≡ told Open
    by true = found
    by false = lost
  mark-alike told found lost change Found = refl
  mark-alike told found lost change Lost = refl
  mark-alike told found lost change Read = refl

  -- and so of the settled reply
  reply-alike : {A : Type 0} (told : Reply → A) → told (Cut Found) ≡ told (Cut Open) → told (Cut Lost) ≡ told (Cut Open) → (op : Op) (reply : Reply) →
      told (settled_reply end op reply) ≡ told reply
  reply-alike told found lost op (Old old place) = refl
  reply-alike told found lost op (Parts parts cut) = refl
  reply-alike told found lost op Full = refl
  reply-alike told found lost op (Spent clock) = refl
  reply-alike told found lost op (Cut mark) = mark-alike (λ (m : CutMark). told (Cut m)) found lost (change_asked op) mark
  reply-alike told found lost op Unstarted = refl

  -- a mark of a write stays one
  mark-writes : (change : Option Change) (mark : CutMark) → mark ≢ Read → settled_mark end change mark ≢ Read
  mark-writes change (At place) unread = unread
  mark-writes change Open unread = by (is_shown end change) where
    by : (b : Bool) → cond b Found Lost ≢ Read
    by true is = cc
    by false is = cc
  mark-writes change Found unread = unread
  mark-writes change Lost unread = unread
  mark-writes change Read unread = unread

  mark-fits : (op : Op) (mark : CutMark) → IsItsMark op mark → IsItsMark op (settled_mark end (change_asked op) mark)
  mark-fits (Put name value) mark fits = mark-writes (change_asked (Put name value)) mark fits
  mark-fits (Get name) mark fits = ap (settled_mark end None) fits
  mark-fits (Del name) mark fits = mark-writes (change_asked (Del name)) mark fits
  mark-fits (Scan from count) mark fits = fits

  reply-answers : (base : Map) (writes : List Write) (limit : ℕ) (op : Op) (reply : Reply) → IsAnswer base writes limit op reply → IsAnswer base writes limit op (settled_reply end op reply)
  reply-answers base writes limit op (Old old place) is = is
  reply-answers base writes limit op (Parts parts cut) is = is
  reply-answers base writes limit op Full is = is
  reply-answers base writes limit op (Spent clock) is = is
  reply-answers base writes limit op (Cut mark) is = mark-fits op mark is
  reply-answers base writes limit op Unstarted is = is

  reply-answered : (op : Op) (reply : Reply) → IsAnswered reply → IsAnswered (settled_reply end op reply)
  reply-answered op (Old old place) is = is
  reply-answered op (Parts parts cut) is = is
  reply-answered op Full is = is
  reply-answered op (Spent clock) is = is
  reply-answered op (Cut mark) is = is
  reply-answered op Unstarted is = is

  reply-begun : (op : Op) (reply : Reply) → reply ≢ Unstarted → settled_reply end op reply ≢ Unstarted
  reply-begun op (Old old place) begun = begun
  reply-begun op (Parts parts cut) begun = begun
  reply-begun op Full begun = begun
  reply-begun op (Spent clock) begun = begun
  reply-begun op (Cut mark) begun = λ is. cc
  reply-begun op Unstarted begun = begun

  -- once the map was asked, a mark that said nothing says what it shows
  mark-says : (change : Change) (mark : CutMark) → mark ≢ Found → mark ≢ Lost → Says end change (settled_mark end (Some change) mark)
  mark-says change (At place) unfound unlost = tt
  mark-says change Open unfound unlost = by_found end change (λ b. Says end change (cond b Found Lost)) (λ found. found) (λ lost. lost)
  mark-says change Found unfound unlost = absurd (unfound refl)
  mark-says change Lost unfound unlost = absurd (unlost refl)
  mark-says change Read unfound unlost = tt

  asked-says : (change : Option Change) (mark : CutMark) → mark ≢ Found → mark ≢ Lost → IfSome change (λ c. Says end c (settled_mark end change mark))
  asked-says None mark unfound unlost = tt
  asked-says (Some change) mark unfound unlost = mark-says change mark unfound unlost

  reply-says : (op : Op) (reply : Reply) → IsUnsettled reply → ReplySays end op (settled_reply end op reply)
  reply-says op (Old old place) still = tt
  reply-says op (Parts parts cut) still = tt
  reply-says op Full still = tt
  reply-says op (Spent clock) still = tt
  reply-says op (Cut mark) still = asked-says (change_asked op) mark still.0 still.1
  reply-says op Unstarted still = tt

  pub write-same : (r : Record) → placed_write (settled end r) ≡ placed_write r
  write-same r =
      ap (λ (o : Option ℕ). elim o [
        | None ↦ None
        | Some place ↦ option_map (λ (c : Change). (place, record { caller = r.caller; index = r.index; change = c })) (change_asked r.op)
      ]) (reply-alike place_of refl refl r.op r.reply)

  interval-same : (r : Record) → interval (settled end r) ≡ interval r
  interval-same r = reply-alike (interval_told r.op) refl refl r.op r.reply

  each : (P Q : Record → Type 0) → ((r : Record) → P r → Q (settled end r)) → (records : List Record) → All P records → All Q (map (settled end) records)
  each P Q to records all = All-map Q (settled end) records (λ k d within. to (get_or records k d) (all k d within))

  module _ (records : List Record) where
    in-order : KeepsCallersOrder records → KeepsCallersOrder (map (settled end) records)
    in-order keeps r s has_r has_s caller less =
        let one = made_of (settled end) records r has_r in
        let two = made_of (settled end) records s has_s in
        let same_caller : one.0.caller ≡ two.0.caller = ap (λ (q : Record). q.caller) one.2 ∙ caller ∙ sym (ap (λ (q : Record). q.caller) two.2) in
        let first : one.0.index ≡ r.index = ap (λ (q : Record). q.index) one.2 in
        let second : two.0.index ≡ s.index = ap (λ (q : Record). q.index) two.2 in
        let here : interval one.0 ≡ interval r = sym (interval-same one.0) ∙ ap interval one.2 in
        let there : interval two.0 ≡ interval s = sym (interval-same two.0) ∙ ap interval two.2 in
        subst (λ (o : Option Interval). IfSome o (λ i. IfSome (interval s) (λ j. i.end ≤ j.start))) here
        (subst (λ (o : Option Interval). IfSome (interval one.0) (λ i. IfSome o (λ j. i.end ≤ j.start))) there
        (keeps one.0 two.0 one.1 two.1 same_caller (omega arith)))

    once : StopsOnce records → StopsOnce (map (settled end) records)
    once stops r s has_r has_s caller less =
        let one = made_of (settled end) records r has_r in
        let two = made_of (settled end) records s has_s in
        let same_caller : one.0.caller ≡ two.0.caller = ap (λ (q : Record). q.caller) one.2 ∙ caller ∙ sym (ap (λ (q : Record). q.caller) two.2) in
        let first : one.0.index ≡ r.index = ap (λ (q : Record). q.index) one.2 in
        let second : two.0.index ≡ s.index = ap (λ (q : Record). q.index) two.2 in
        subst (λ (q : Record). IsAnswered q.reply ⊎ (s.reply ≡ Unstarted)) one.2
        (subst (λ (q : Record). IsAnswered (settled end one.0).reply ⊎ (q.reply ≡ Unstarted)) two.2
        (either one.0 two.0 (stops one.0 two.0 one.1 two.1 same_caller (omega arith))))
      where
        either : (a b : Record) → IsAnswered a.reply ⊎ (b.reply ≡ Unstarted) → IsAnswered (settled end a).reply ⊎ ((settled end b).reply ≡ Unstarted)
        either a b (inl is) = inl (reply-answered a.op a.reply is)
        either a b (inr is) = inr (ap (settled_reply end b.op) is)

  budget : (budgets : List ℕ) (r : Record) → KeepsBudget budgets r → KeepsBudget budgets (settled end r)
  budget budgets r is = record {
    none = λ zero. ap (settled_reply end r.op) (is.none zero);
    first = λ n told some first. reply-begun r.op r.reply (is.first n told some first);
  }

pub settled_is_crash_round : SettledIsCrashRound
settled_is_crash_round base calls limit budgets records writes end stopped leaves =
    let legal = stopped.legal in
    record {
      legal = record {
        each_call = subst (λ (cs : List Call). IsPermutation calls cs) (sym (alike (settled end) call_of (λ r. refl) records)) legal.each_call;
        by_place = subst (λ (ws : List (ℕ × Write)). IsPermutation ws (enumerate_from 0 writes)) (sym (alike_given (settled end) placed_write (write-same end) records)) legal.by_place;
        answers = each end (λ r. IsAnswer base writes limit r.op r.reply) (λ r. IsAnswer base writes limit r.op r.reply)
            (λ r is. reply-answers end base writes limit r.op r.reply is) records legal.answers;
        within = each end (λ r. IfSome (interval r) (λ i. i.end ≤ length writes)) (λ r. IfSome (interval r) (λ i. i.end ≤ length writes))
            (λ r is. subst (λ (o : Option Interval). IfSome o (λ i. i.end ≤ length writes)) (sym (interval-same end r)) is) records legal.within;
        in_order = in-order end records legal.in_order;
        in_time = legal.in_time;
      };
      once = once end records stopped.once;
      budget = each end (KeepsBudget budgets) (KeepsBudget budgets) (budget end budgets) records stopped.budget;
      leaves = subst (λ cuts. IsCrashEnd (after_all base writes) cuts end)
          (sym (alike_given (settled end) (λ (r : Record). change_cut r.op r.reply) (λ r. reply-alike end (change_cut r.op) refl refl r.op r.reply) records)) leaves;
      says = each end (λ r. IsUnsettled r.reply) (λ r. ReplySays end r.op r.reply) (λ r is. reply-says end r.op r.reply is) records stopped.unsettled;
    }
