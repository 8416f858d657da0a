use Rattle.std.proofs.Common.{refl}
use Rattle.sha2.specs.Sha256.{sha256, digest_bytes, hash_after, compress, rounds, schedule}
use Rattle.sha2.specs.Sha256.{first_words}
use Rattle.bloom.proofs.laws.examples.Goals as goal

pub returns : goal.returns
unfolding sha256 digest_bytes hash_after compress rounds schedule first_words
returns c = record { first = refl; second = refl; probes = refl; lengths = refl }
