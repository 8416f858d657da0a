mod Looks
mod NamesLemmas
mod OpenFilesLemmas
mod ShownFiles
