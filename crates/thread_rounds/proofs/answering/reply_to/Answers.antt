use Rattle.std.proofs.Common.{ℕ, inl, inr, refl, sym, subst}
use Rattle.std.specs.Prelude.{Err, IfOk, Ok, Option, Result}
use Rattle.pac_index.specs.Budgets.{Pays}
use Rattle.pac_index.specs.Callers.{seen_by}
use Rattle.thread_rounds.proofs.answering.reply_to.Goals as goal

both-ok : {X Y : Type 0} (r : Result X Y) (P Q R : X → Type 0) → ((x : X) → P x → Q x → R x) → IfOk r P → IfOk r Q → IfOk r R
both-ok (Ok x) P Q R both p q = both x p q
both-ok (Err y) P Q R both p q = tt

pub returns-then-is_spent : goal.returns-then-is_spent
returns-then-is_spent g c =
    let taken = (seen_by c.args.caller.now).taken in
    let spent = c.if-is_spent.ensures {u = tt} in
    record {
      stays = (c.requires.may.0, refl);
      paid = subst (λ (left : Option ℕ). Pays left left taken taken) (sym spent) refl;
      gone = inl (record { spent = spent; unstarted = refl; same = refl });
      told = tt;
    }

pub returns-clause-gone : goal.returns-clause-gone
returns-clause-gone g c =
    both-ok c.answer.result _ _ _ (λ reply made ends. inr (record { steps = c.if-is_spent.ensures {u = tt}; made = made; ends = ends })) c.answer.ensures.made c.answer.ensures.ends
