use Rattle.std.specs.Prelude.{ℕ, ◌++◌, flat_map}
use Rattle.std.specs.List.{range_with_len}
use Rattle.std.proofs.Common.{◌∙◌, ap, sym}
use Rattle.make_text.specs.MakeText.{back, delay_text, first_text, front, product_text, sum_text}
use Rattle.make_text.proofs.Joined.{six_pieces}
use Rattle.make_text.proofs.Written.{made_written}
use Rattle.make_text.proofs.text.make_text.Goals as goal

pub returns : goal.returns
returns c =
    let taps = c.args.taps in
    let products = flat_map product_text (range_with_len 0 taps) in
    six_pieces _ front first_text (flat_map delay_text (range_with_len 0 c.saturating_sub.result)) products (sum_text taps) back _ _ _ _ _ _
    c.new-text.ensures.items c.in_ok-put_front.ensures c.in_ok-put_first.ensures c.in_ok-put_delays.ensures c.in_ok-put_products.ensures
    c.in_ok-put_sum.ensures c.in_ok-put_back.ensures
    ∙ ap (λ (n : ℕ). front ++ (first_text ++ (flat_map delay_text (range_with_len 0 n) ++ (products ++ (sum_text taps ++ back))))) c.saturating_sub.ensures
    ∙ sym (made_written taps)
