mod KeptFacts
mod RefusedFacts
