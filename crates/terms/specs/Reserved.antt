-- Two numbers of document 01 that stand for something absent.
use Rattle.std.specs.Prelude.{ℕ}

-- "a slot or 65,535 for none"
abbrev pub no_slot : ℕ
no_slot = 65535

-- "2^64 − 1 stands for 'no end'"
abbrev pub no_end : ℕ
no_end = 18446744073709551615
