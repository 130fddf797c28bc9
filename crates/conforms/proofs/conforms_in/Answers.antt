-- `conforms_in`: the values are read from 0 on; what refusal 14 refuses does not conform.
use Rattle.conforms.proofs.NameLaws.{refused_not}
use Rattle.conforms.proofs.conforms_in.Goals as goal

pub loaded_conform-requires : goal.loaded_conform-requires
loaded_conform-requires c =
    record { readable = c.requires.readable; buffer = c.args.values.now; top = 0; end = _; bound = c.in-Ok.ensures.1 }

pub returns-in_default : goal.returns-in_default
returns-in_default c = refused_not c.requires.readable _ _ c.in_default.ensures.1

pub returns : goal.returns
returns c = c.loaded_conform.ensures _ _ _ c.in-Ok.ensures.1
