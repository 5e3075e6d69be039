use Rattle.std.proofs.Common.{◌≡◌, ℕ, ◌+◌, ◌≤◌, suc, [], ◌∷◌, ◌++◌, take, sym, ap, ◌∙◌, subst, arith}
use Rattle.std.specs.Mem.Slots.{slots_items}
use Rattle.index_core.proofs.Lists.{got_there}
use Rattle.pac_index.proofs.Gathered.{take_more}
use Rattle.pac_index.proofs.meeting.read_words.Goals as goal

pub loop-address-preserved : goal.loop-address-preserved
loop-address-preserved c =
    let items = slots_items c.args.closed.now.words in
    let n = c.loop-address.address in
    let stands = got_there items n c.word.result c.word.ensures in
    let inv = c.loop-address.invariant in
    let pushed = c.push_reserved.ensures in (
      pushed.items ∙ ap (λ l. l ++ c.word.result ∷ []) inv.0 ∙ sym (take_more items n c.word.result stands) ∙ ap (λ (m : ℕ). take m items) (let e : suc n ≡ n + 1 = omega arith in e),
      pushed.len ∙ ap (λ (m : ℕ). m + 1) inv.1,
      subst (λ (m : ℕ). c.args.count ≤ m) (sym pushed.capacity) inv.2,
    )
