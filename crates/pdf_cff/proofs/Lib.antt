mod FirstStems
mod StemSteps
mod DictStemLaws
