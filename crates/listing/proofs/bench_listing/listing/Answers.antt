use Rattle.listing.proofs.BenchRunLaws.{refused_room, refused_memory, listed_text}
use Rattle.listing.proofs.bench_listing.listing.Goals as goal

pub returns-then-text-lt-MAX_TEXT-clause-text_after : goal.returns-then-text-lt-MAX_TEXT-clause-text_after
returns-then-text-lt-MAX_TEXT-clause-text_after c = refused_room _ _ _ c.if-text-lt-MAX_TEXT.true

pub returns-then-memory-ne-MEMORY_LENGTH-clause-text_after : goal.returns-then-memory-ne-MEMORY_LENGTH-clause-text_after
returns-then-memory-ne-MEMORY_LENGTH-clause-text_after c = refused_memory _ _ _ c.if-text-lt-MAX_TEXT.false c.if-memory-ne-MEMORY_LENGTH.true

pub returns-clause-text_after : goal.returns-clause-text_after
returns-clause-text_after c = let put = c.put_text.ensures in listed_text _ _ _ _ _ _ c.if-text-lt-MAX_TEXT.false c.if-memory-ne-MEMORY_LENGTH.false (put.value, (put.memory_after, put.text_after))
