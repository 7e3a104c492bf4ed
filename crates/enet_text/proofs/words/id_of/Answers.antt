use Rattle.std.proofs.Common.{Some, sym, ap, ◌∙◌}
use Rattle.std.specs.Option.{option_map}
use Rattle.std.specs.Int.{from_be_bytes, w32}
use Rattle.std.specs.Result.{result_ok}
use Rattle.enet_text.specs.Words.{id_of}
use Rattle.enet_text.proofs.words.id_of.Goals as goal

pub returns-in_err-bytes : goal.returns-in_err-bytes
unfolding id_of
returns-in_err-bytes c = c.from_residual.ensures
    ∙ sym (ap (option_map (from_be_bytes w32)) (ap result_ok (sym c.from_hex.ensures) ∙ sym c.ok.ensures.value ∙ c.in_err-bytes.was))

pub returns : goal.returns
unfolding id_of
returns c = ap Some c.from_be_bytes.ensures
    ∙ sym (ap (option_map (from_be_bytes w32)) (ap result_ok (sym c.from_hex.ensures) ∙ sym c.ok.ensures.value ∙ c.in_ok-bytes.was))
