mod NoFile
