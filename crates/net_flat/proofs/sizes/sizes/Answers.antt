use Rattle.std.proofs.Common.{◌≡◌, ℕ, ◌+◌, [], ◌∷◌, ◌++◌, length, Some, slice_get, sym, ap, ◌∙◌, arith}
use Rattle.std.specs.Prelude.{sum_by}
use Rattle.std.proofs.lemmas.List.{length_push}
use Rattle.net_flat.specs.Sizes.{capped, size_in}
use Rattle.net_flat.proofs.Lists.{item_at}
use Rattle.net_flat.proofs.Widths.{one_more}
use Rattle.net_flat.proofs.sizes.sizes.Goals as goal

pub loop-m-preserved : goal.loop-m-preserved
loop-m-preserved c =
    let net = c.args.net.now in
    let sizes = c.loop-m.sizes.items in
    let m = c.m-item.result in
    let found : slice_get net.modules c.loop-m.m-index ≡ Some m =
    item_at c.as_slice-m-items.result.now net.modules c.loop-m.m-index m c.as_slice-m-items.ensures (omega (arith, c.loop-m-test.true)) c.m-item.is in
    let size : c.size_of.result ≡ capped (length m.widths + sum_by (size_in sizes) m.cells) =
    c.size_of.ensures ∙ ap (λ xs. capped (length m.widths + sum_by (size_in xs) m.cells)) c.deref.ensures.value in
    let pushed : c.push.new.self.items ≡ sizes ++ c.size_of.result ∷ [] = c.in_ok-push.ensures.items in
    record {
      so_far = one_more net sizes c.push.new.self.items c.loop-m.m-index m c.size_of.result c.requires c.loop-m.invariant.so_far
          (sym c.loop-m.invariant.count) found size pushed;
      count = rw pushed (length_push sizes c.size_of.result ∙ ap (λ (n : ℕ). n + 1) c.loop-m.invariant.count);
    }
