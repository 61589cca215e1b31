-- The fields of NVMCON that other rules ask for, by the numbers of their bits. Assumes nothing.
use mathlib.Core.Path.{◌≡◌, refl, sym, ap, ◌∙◌}
use Rattle.words.specs.Word.{bit}
use Rattle.words.proofs.BitLaws.{has_bit}
use Rattle.device.specs.declared.record.Device.{Device}
use Rattle.device.specs.Record.{register_of, running, bfswap, pfswap}

module _ (d : Device) where
  pub con_is : register_of d 0 ≡ d.nvmcon.0
  unfolding register_of
  con_is = refl

  pub wr_is : bit 15 (register_of d 0) ≡ running d
  wr_is = ap (bit 15) con_is ∙ sym (has_bit 15 d.nvmcon.0)

  pub bfswap_is : bit 6 (register_of d 0) ≡ bfswap d
  bfswap_is = ap (bit 6) con_is ∙ sym (has_bit 6 d.nvmcon.0)

  pub pfswap_is : bit 7 (register_of d 0) ≡ pfswap d
  pfswap_is = ap (bit 7) con_is ∙ sym (has_bit 7 d.nvmcon.0)

  pub bwp_is : register_of d 9 ≡ d.nvmbwp.0
  unfolding register_of
  bwp_is = refl
