use Rattle.packed.specs.LawsEncode.{pasted_whole}
use Rattle.packed.proofs.encode.encoded.Goals as goal

pub returns : goal.returns
returns c =
    rw (
      c.paste_action-4.ensures,
      c.paste_action-3.ensures,
      c.paste_action-2.ensures,
      c.paste_action.ensures,
      c.paste_set-2.ensures,
      c.paste_set.ensures,
      c.paste.ensures,
    ) (pasted_whole _)
